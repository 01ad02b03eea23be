-- A write appends the front of the rest.
use Rattle.std.proofs.Common.{◌≡◌, ℕ, ◌-◌, List, ◌++◌, length, take, drop, sym, ap, ◌∙◌, append_assoc, take-append-drop}
use Rattle.std.proofs.lemmas.List.{take_rest}
use Rattle.std.proofs.KnownBytes.{Appends-trans}
use Rattle.station.proofs.system.write_whole.Goals as goal

moves_front : (all gone rest : List ℕ) (n : ℕ) → all ≡ gone ++ rest → all ≡ (gone ++ take n rest) ++ take (length rest - n) (drop n rest)
moves_front all gone rest n e =
    e ∙ ap (λ l. gone ++ l) (sym (take-append-drop n rest)) ∙ sym (append_assoc gone (take n rest) (drop n rest)) ∙ ap (λ l. (gone ++ take n rest) ++ l) (sym (take_rest rest n))

pub loop-rest-preserved : goal.loop-rest-preserved
loop-rest-preserved g c =
    let (gone, split, appended) = c.loop-rest.invariant in
    let rest = c.loop-rest.rest.now in
    let n = c.in_ok-n.n in
    (gone ++ take n rest, moves_front _ gone rest n split, Appends-trans _ _ _ _ _ appended c.in_ok-n.ensures.bytes)

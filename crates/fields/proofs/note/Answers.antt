-- What is noted in the end, from here on with what is noted so far, is what is noted of all entries.
use mathlib.Core.Path.{◌≡◌, ap, subst, ◌∙◌}
use mathlib.Core.Bool.{◌&&◌}
use Prim.Native.Nat.{ℕ, ◌+◌, ◌-◌}
use native.Mathlib.Omega.{arith}
use lib.Dec.{lit<}
use lib.ListN.{length, length-set}
use Rattle.fields.specs.Steps.{NoteSays}
use Rattle.fields.specs.Laws.Steps.{left-next}
use Rattle.fields.specs.Laws.Numbers.{named-hinted}
use Rattle.fields.specs.Laws.Notes.{note-none, note-next, note-spans, note-done}
use Rattle.fields.proofs.note.Goals as goal
use Rattle.fields.proofs.note.Goals.{then-typed, else-typed}

pub row_of-row-requires : goal.row_of-row-requires
row_of-row-requires c = (c.loop.invariant.0, (c.key_at-key.ensures.inside, (lit< tt, (lit< tt, named-hinted))))

pub loop-preserved : goal.loop-preserved
loop-preserved c =
    let a = c.args in
    let l = c.loop in
    let key = c.key_at-key.result in
    let i = c.row_of-row.result in
    let judged = c.judge-judged.result in
    let fit : c.if-typed.typed ≡ (l.typed && judged.typed) =
    elim c.if-typed.branch [ then-typed w ↦ rw w.if-typed.true w.typed-is | else-typed w ↦ rw w.if-typed.false (w.typed-is ∙ w.if-typed.false) ] in
    (l.invariant.0, (ap length c.put_place.ensures ∙ length-set l.places i (key.at + key.count) ∙ l.invariant.1.0, (ap length c.put_place-in-loop.ensures ∙ length-set l.ends i judged.end ∙ l.invariant.1.1.0, λ r h. l.invariant.1.1.1 r (note-next a.file.now l.places l.ends l.presence l.typed (a.count - l.counter) l.p i judged.end judged.typed (omega (arith, c.loop-test.true)) l.invariant.1.0 l.invariant.1.1.0 (record { says = c.key_at-key.ensures.says }) c.row_of-row.ensures c.judge-judged.ensures c.put_place.ensures c.put_place-in-loop.ensures c.mark-presence.ensures fit (subst (λ (z : ℕ). NoteSays a.file.now c.put_place.new.places c.put_place-in-loop.new.places c.mark-presence.result c.if-typed.typed z judged.end r) (left-next a.count l.counter) h)))))

pub returns : goal.returns
returns c =
    let a = c.args in
    let l = c.loop in
    let h = l.invariant.1.1.1 _ (note-none a.file.now l.places l.ends l.presence l.typed _ l.p (omega (arith, c.loop-test.false)) l.invariant.1.0) in
    record { noted = note-done h; spans = note-spans h }

-- Each case of the walk is a case of `ended`; the tables are as long as a walk asks, and the rows of a map that ends have the places of its keys.
use Rattle.std.proofs.Common.{ℕ, List, length, sym, ap, ◌∙◌, lit<}
use Rattle.std.proofs.lemmas.Result.{err_from_is_err_and}
use Rattle.refusal.specs.Outcome.{numbered}
use Rattle.refusal.specs.Answer.{leaves}
use Rattle.messagepack.proofs.Laws.Outer.{map-cut, map-refused, map-ended, map-after, keys-refused, keys-told, keys-left}
use Rattle.messagepack.proofs.outer.Goals as goal

pub returns-in_default : goal.returns-in_default
returns-in_default c =
    let a = c.args in
    let r = keys-refused a.file.now a.places.now (map-cut a.file.now c.requires.0 c.requires.1 (sym (c.head_at.ensures.rule) ∙ c.in_default.is)) (lit< tt) in
    record { answer = r.0; places = r.1 }

pub hand_over-requires : goal.hand_over-requires
hand_over-requires c =
    (c.value.ensures.walked.starts-kept.long, (c.value.ensures.noted.says _ _ _ c.requires.1 (sym (c.head_at.ensures.rule) ∙ c.in-Some.is) (ap numbered c.in_ok-end.was)).few)

pub returns-in_err-end : goal.returns-in_err-end
returns-in_err-end c =
    let a = c.args in
    let m = map-refused a.file.now c.requires.0 c.requires.1 (sym c.value.ensures.walked.answer ∙ ap numbered c.in_err-end.was) in
    let r = keys-refused a.file.now a.places.now m.0 m.1 in
    let p = err_from_is_err_and c.from_residual.result c.from_residual.ensures.1 in
    record { answer = rw (p.1, p.2) r.0; places = r.1 }

pub returns-then-end-file : goal.returns-then-end-file
returns-then-end-file c =
    let a = c.args in
    let r = keys-refused a.file.now a.places.now (map-after a.file.now c.requires.0 c.requires.1 (sym c.value.ensures.walked.answer ∙ ap numbered c.in_ok-end.was) c.if-end-file.true) (lit< tt) in
    record { answer = r.0; places = r.1 }

pub returns : goal.returns
returns c =
    let a = c.args in
    let h = sym (c.head_at.ensures.rule) ∙ c.in-Some.is in
    let ended = ap numbered c.in_ok-end.was in
    let z = map-ended a.file.now c.requires.0 c.requires.1 (sym c.value.ensures.walked.answer ∙ ended) c.if-end-file.false in
    let noted = c.value.ensures.noted.says _ _ _ c.requires.1 h ended in
    record { answer = c.hand_over.ensures.answer ∙ keys-told a.file.now z h (length a.places.now); places = c.hand_over.ensures.places ∙ ap (λ (l : List ℕ). leaves l a.places.now) noted.places ∙ keys-left a.file.now z h a.places.now }

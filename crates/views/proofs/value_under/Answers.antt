-- In a container the entries of its map are searched.
use Rattle.std.proofs.Common.{◌≡◌, refl, true, false, sym, ap, subst, ◌∙◌}
use Rattle.std.specs.Prelude.{Result, Ok, Err, is_err}
use Rattle.refusal.specs.Table.{accepted}
use Rattle.refusal.specs.Outcome.{number_of}
use Rattle.refusal.specs.declared.Refusal.{Refusal}
use Rattle.refusal.proofs.Laws.Table.{refusal_of, refusal_of-refusal_number}
use Rattle.numbers.specs.Laws.Tests.{clash}
use Rattle.messagepack.specs.Document.{map}
use Rattle.values.specs.Places.{PlaceSays}
use Rattle.values.specs.Laws.Places.{outer-at}
use Rattle.views.specs.Laws.Binary.{under-refused, under-container}
use Rattle.views.proofs.value_under.Goals as goal

-- an outcome that is an error has a number that is not 0, and another has 0
is_refused : (r : Result (Unit {0}) Refusal) → is_err r ≡ true → number_of r ≡ accepted → ⊥
is_refused (Ok u) h z = clash h
is_refused (Err e) h z = clash (sym (ap is_err (sym (refusal_of-refusal_number (Err e)) ∙ ap refusal_of z)))

is_passed : (r : Result (Unit {0}) Refusal) → is_err r ≡ false → number_of r ≡ accepted
is_passed (Ok u) h = refl
is_passed (Err e) h = clash (sym h)

pub returns-then-is_err : goal.returns-then-is_err
returns-then-is_err c = under-refused _ _ (λ z. is_refused c.container.result (sym c.is_err.ensures.value ∙ c.if-is_err.true) (c.container.ensures.number ∙ z))

pub returns : goal.returns
returns c =
    let k = c.container.ensures in
    let z = is_passed c.container.result (sym c.is_err.ensures.value ∙ c.if-is_err.false) in
    let box = k.exactly.0 z in
    subst (PlaceSays c.args.file.now c.find.result) (sym (under-container _ box (sym k.number ∙ z))) (c.find.ensures (map box.entries) _ (outer-at box))

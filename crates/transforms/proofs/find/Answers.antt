-- A file that is no container has its number; in one bioAssemblyList decides.
use mathlib.Core.Path.{◌≡◌, refl, sym, ap, ◌∙◌}
use mathlib.Core.Bool.{true, false}
use Rattle.std.specs.Prelude.{Err, is_err, ℕ}
use Rattle.std.proofs.lemmas.Result.{err_from_is_err_and}
use Rattle.refusal.specs.Table.{accepted, refusal_number}
use Rattle.refusal.specs.declared.Refusal.{Refusal}
use Rattle.refusal.specs.declared.Refusal.TheVariants.{NoSuchField, FieldType as WrongType}
use Rattle.refusal.proofs.Laws.Table.{refusal_of, refusal_of-refusal_number}
use Rattle.numbers.specs.Laws.Tests.{clash}
use Rattle.refusal.specs.Outcome.{number_of}
use Rattle.messagepack.specs.Document.{map}
use Rattle.values.specs.Laws.Places.{outer-at, place_none, place-some}
use Rattle.fields.specs.Types.{FieldType}
use Rattle.text.specs.Equal.{equal}
use Rattle.fields.specs.Table.{named}
use Rattle.fields.specs.Fields.{find_row}
use Rattle.fields.specs.Tests.{typed}
use Rattle.transforms.specs.Matrix.{assemblies_type}
use Rattle.transforms.specs.Laws.Matrix.{no-assemblies, mistyped, answers-as, assemblies-type, no-container, container-answers}
use Rattle.transforms.proofs.find.Goals as goal

-- a refusal has a number that is not 0
refused : (e : Refusal) → refusal_number e ≡ accepted → ⊥
refused e z = let q : Err e ≡ refusal_of accepted = sym (refusal_of-refusal_number (Err e)) ∙ ap refusal_of z in clash (sym (ap is_err q))

pub returns-in_err-container : goal.returns-in_err-container
returns-in_err-container c =
    let k = c.container.ensures in
    let x = c.in_err-container.field-0.0 in
    let n = sym (ap number_of c.in_err-container.was) ∙ k.number in
    let r = no-container c.args.assembly c.args.transform {r = Err x} (λ z. refused x (n ∙ z)) (ap (λ (m : ℕ). Err m) n) in
    let p = err_from_is_err_and c.from_residual.result c.from_residual.ensures.1 in
    record { number = rw (p.1, p.2) r.number; floats = rw p.1 r.floats }

pub returns-then-at-eq0 : goal.returns-then-at-eq0
returns-then-at-eq0 c =
    let k = c.container.ensures in
    let n = ap number_of c.in_ok-container.was in
    let o = k.exactly.0 n in
    let z = sym k.number ∙ n in
    let p = c.find-at.ensures (map o.entries) _ (outer-at o) in
    let r = container-answers c.args.assembly c.args.transform {r = Err NoSuchField} o z (no-assemblies c.args.assembly c.args.transform (place_none p c.if-at-eq0.true)) in
    record { number = r.number; floats = r.floats }

pub returns-then-not-is_typed : goal.returns-then-not-is_typed
unfolding find_row equal named
returns-then-not-is_typed c =
    let k = c.container.ensures in
    let n = ap number_of c.in_ok-container.was in
    let o = k.exactly.0 n in
    let z = sym k.number ∙ n in
    let p = c.find-at.ensures (map o.entries) _ (outer-at o) in
    let w = place-some p c.if-at-eq0.false in
    let f : typed assemblies_type w.x ≡ false = sym (ap (λ (y : FieldType). typed y w.x) (assemblies-type refl)) ∙ sym (c.is_typed.ensures w.x w.end w.at) ∙ c.if-not-is_typed.true in
    let r = container-answers c.args.assembly c.args.transform {r = Err WrongType} o z (mistyped c.args.assembly c.args.transform w.is f) in
    record { number = r.number; floats = r.floats }

pub returns : goal.returns
unfolding find_row equal named
returns c =
    let k = c.container.ensures in
    let n = ap number_of c.in_ok-container.was in
    let o = k.exactly.0 n in
    let z = sym k.number ∙ n in
    let p = c.find-at.ensures (map o.entries) _ (outer-at o) in
    let w = place-some p c.if-at-eq0.false in
    let f : typed assemblies_type w.x ≡ true = sym (ap (λ (y : FieldType). typed y w.x) (assemblies-type refl)) ∙ sym (c.is_typed.ensures w.x w.end w.at) ∙ c.if-not-is_typed.false in
    let r = container-answers c.args.assembly c.args.transform {r = c.transform_in.result} o z (answers-as c.args.assembly c.args.transform w.is (c.transform_in.ensures w.x w.end w.at f)) in
    record { number = r.number; floats = r.floats }

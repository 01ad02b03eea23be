-- The assembly is found by its number, its transforms under their key, the transform by its number, and its matrix under its key; the type says that both keys are there.
use mathlib.Core.Path.{◌≡◌}
use Rattle.std.proofs.Common.{arith}
use Rattle.std.proofs.lemmas.Result.{err_from_is_err_and}
use Rattle.std.specs.Prelude.{Some, None}
use Rattle.refusal.specs.declared.Refusal.TheVariants.{NoSuchEntry}
use Rattle.transforms.specs.Laws.Matrix.{found-there, found-absent, place-there, transforms-held, matrix-held, matrix-sixteen, no-assembly, no-transform, matrix-there}
use Rattle.transforms.proofs.transform_in.Goals as goal

pub returns-in_err-a : goal.returns-in_err-a
returns-in_err-a c =
    λ x e d h.
    let absent : c.item.result ≡ None = grind arith in
    let entry : c.in_err-a.field-0.0 ≡ NoSuchEntry = grind arith in
    let n = found-absent (c.item.ensures x e d) absent in
    let p = err_from_is_err_and c.from_residual.result c.from_residual.ensures.1 in
    rw (p.1, p.2, entry) (no-assembly c.args.assembly c.args.transform x h n)

pub returns-in_err-t : goal.returns-in_err-t
returns-in_err-t c =
    λ x e d h.
    let there : c.item.result ≡ Some c.in_ok-a.a = grind arith in
    let absent : c.item-2.result ≡ None = grind arith in
    let entry : c.in_err-t.field-0.0 ≡ NoSuchEntry = grind arith in
    let u = found-there (c.item.ensures x e d) there in
    let v = transforms-held x c.args.assembly h u.is in
    let z = place-there (c.find-list.ensures u.x u.end u.at) v.is in
    let n = found-absent (c.item-2.ensures v.x z.end z.at) absent in
    let p = err_from_is_err_and c.from_residual-in_err-t.result c.from_residual-in_err-t.ensures.1 in
    rw (p.1, p.2, entry) (no-transform c.args.assembly c.args.transform x h u.is v.is n)

pub returns : goal.returns
returns c =
    λ x e d h.
    let there : c.item.result ≡ Some c.in_ok-a.a = grind arith in
    let there₂ : c.item-2.result ≡ Some c.in_ok-t.t = grind arith in
    let u = found-there (c.item.ensures x e d) there in
    let v = transforms-held x c.args.assembly h u.is in
    let z = place-there (c.find-list.ensures u.x u.end u.at) v.is in
    let w = found-there (c.item-2.ensures v.x z.end z.at) there₂ in
    let m = matrix-held v.x c.args.transform v.typed w.is in
    let p = place-there (c.find.ensures w.x w.end w.at) m.is in
    let f = c.floats_at-floats.ensures m.x p.end p.at (matrix-sixteen m.x m.typed) in
    matrix-there c.args.assembly c.args.transform x h u.is v.is w.is m.is f

-- The part is at its place, which is inside the file.
use mathlib.Core.Path.{◌≡◌, sym, ap, ◌∙◌}
use Prim.Native.Nat.{ℕ, ◌+◌, ◌-◌}
use native.Mathlib.Omega.{arith}
use lib.ListN.{take, drop}
use Rattle.refusal.specs.Outcome.{numbered}
use Rattle.numbers.specs.Laws.BigEndian.{bytes-of}
use Rattle.views.specs.Place.{part_at, part_of}
use Rattle.views.specs.Laws.View.{place_of-fits}
use Rattle.views.proofs.view.Goals as goal

pub overflow_add-result : goal.overflow_add-result
overflow_add-result c = omega (arith, place_of-fits _ _ (bytes-of _ (λ i. omega (arith, c.type_inv.file i))) (sym c.find.ensures ∙ ap numbered c.in-Ok.is))

pub slice_bounds-result-end : goal.slice_bounds-result-end
slice_bounds-result-end c = omega (arith, place_of-fits _ _ (bytes-of _ (λ i. omega (arith, c.type_inv.file i))) (sym c.find.ensures ∙ ap numbered c.in-Ok.is))

pub returns-in-Ok : goal.returns-in-Ok
unfolding part_of
returns-in-Ok c =
    let s = c.args.file.now in
    let i = c.in-Ok.part.at in
    let n = c.in-Ok.part.count in
    let e : i + n - i ≡ n = omega arith in
    ap (λ (k : ℕ). take k (drop i s)) e ∙ sym (ap (part_at s) (sym c.find.ensures ∙ ap numbered c.in-Ok.is))

pub returns-in-Err : goal.returns-in-Err
unfolding part_of
returns-in-Err c = sym (ap (part_at c.args.file.now) (sym c.find.ensures ∙ ap numbered c.in-Err.is))

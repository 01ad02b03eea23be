-- The digits before i are 0, so that the text is that of the rest.
use mathlib.Core.Path.{◌≡◌, ap, ◌∙◌}
use Prim.Native.Nat.{ℕ}
use native.Mathlib.Omega.{arith}
use lib.ListN.{drop, length}
use Rattle.lines.specs.Figures.{trimmed}
use Rattle.lines.specs.Laws.Figures.{trimmed-zero, trimmed-digit, trimmed-none}
use Rattle.lines.proofs.exact.zeros_of.Goals as goal

pub returns-then-digit-ne0-clause-digits : goal.returns-then-digit-ne0-clause-digits
returns-then-digit-ne0-clause-digits c h = c.loop-i.invariant ∙ trimmed-digit c.args.row.now c.loop-i.i h c.if-digit-ne0.true

pub loop-i-preserved : goal.loop-i-preserved
loop-i-preserved c = c.loop-i.invariant ∙ trimmed-zero c.args.row.now c.loop-i.i c.loop-i-test.true c.if-digit-ne0.false

pub returns-clause-zeros : goal.returns-clause-zeros
returns-clause-zeros c h =
    let row = c.args.row.now in
    let e : c.loop-i.i ≡ length row = omega arith in
    c.loop-i.invariant ∙ ap (λ (n : ℕ). trimmed (drop n row)) e ∙ trimmed-none row

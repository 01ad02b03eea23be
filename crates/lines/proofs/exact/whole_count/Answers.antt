-- The digits from i on are 0; the first below them that is not, or the lowest, is the highest digit of the number.
use mathlib.Core.Path.{◌≡◌, ap, ◌∙◌}
use Prim.Native.Nat.{ℕ, ◌+◌, ◌-◌}
use native.Mathlib.Omega.{arith}
use lib.ListN.{take}
use Rattle.lines.specs.Figures.{glyphs}
use Rattle.lines.specs.Laws.Decimals.{counted-more, counted-digit, counted-one}
use Rattle.lines.proofs.exact.whole_count.Goals as goal

pub returns-then-row-i-ne0-clause-text : goal.returns-then-row-i-ne0-clause-text
returns-then-row-i-ne0-clause-text c n e b =
    let i : c.loop-i.i - 1 + 1 ≡ c.loop-i.i = omega arith in
    rw i (counted-digit c.loop-i.i n c.loop-i.invariant c.if-row-i-ne0.true e b)

pub loop-i-preserved : goal.loop-i-preserved
loop-i-preserved c = counted-more c.loop-i.i c.loop-i.invariant c.loop-i-test.true c.if-row-i-ne0.false

pub returns-clause-text : goal.returns-clause-text
returns-clause-text c n e b =
    let i : c.loop-i.i ≡ 1 = omega (arith, c.loop-i.invariant.some) in
    counted-one c.loop-i.i n c.loop-i.invariant c.loop-i-test.false e b ∙ ap (λ (k : ℕ). glyphs (take k c.args.row.now)) i

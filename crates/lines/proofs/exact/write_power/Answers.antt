-- After so many turns the digits are those of m times that power of the factor.
use mathlib.Core.Path.{◌≡◌, ◌∙◌}
use native.Mathlib.Omega.{arith}
use Rattle.lines.specs.Laws.Figures.{power-more}
use Rattle.lines.proofs.exact.write_power.Goals as goal

pub loop-preserved : goal.loop-preserved
loop-preserved c = c.times-in-loop.ensures ∙ power-more _ _ _ c.loop.counter _ c.loop.invariant

pub returns : goal.returns
returns c = let e : c.args.count ≡ c.loop.counter = omega arith in rw (e, ← c.times.auto.row) c.loop.invariant

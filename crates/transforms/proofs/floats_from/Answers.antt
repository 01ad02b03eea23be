-- The floats before this one stand in their places, and those from here on are left.
use mathlib.Core.Path.{ap, ◌∙◌}
use native.Mathlib.Omega.{arith}
use Rattle.values.specs.Laws.Places.{at-standing}
use lib.ListN.{length-set}
use lib.Ieee.{binary32, of_bits}
use Rattle.transforms.specs.Laws.Matrix.{reading-start, reading-more, reading-end}
use Rattle.transforms.proofs.floats_from.Goals as goal

pub loop-float-init : goal.loop-float-init
loop-float-init c = (rw c.no_floats-floats.ensures, λ ds e a k. reading-start a k)

pub loop-float-preserved : goal.loop-float-preserved
loop-float-preserved c = (
  length-set c.loop-float.float-items c.loop-float.float-index c.of_bits.result ∙ c.loop-float.invariant.0,
  λ ds e a k.
      reading-more c.of_bits.result c.loop-float.invariant.0 (c.loop-float.invariant.1 ds e a k) c.loop-float-test.true (λ x f d. (c.of_bits.ensures ∙ ap (of_bits binary32) (c.bits_at.ensures x f d), c.skip-p.ensures f (at-standing d))),
)

pub returns : goal.returns
returns c = λ ds e a k. reading-end c.loop-float.invariant.0 (c.loop-float.invariant.1 ds e a k) (omega (arith, c.loop-float-test.false))

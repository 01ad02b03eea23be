-- Of the values from here on the one that is sought has the number that is left.
use mathlib.Core.Path.{subst}
use Prim.Native.Nat.{ℕ}
use native.Mathlib.Omega.{arith}
use Rattle.values.specs.Laws.Places.{at-standing}
use Rattle.transforms.specs.Laws.Matrix.{Going, going_start, going_more, going_end}
use Rattle.transforms.proofs.past.Goals as goal

pub loop-i-init : goal.loop-i-init
loop-i-init c = λ ds e a l. subst (λ (n : ℕ). Going c.args.file.now ds c.args.n c.args.at n e) (omega arith) (going_start a l)

pub loop-i-preserved : goal.loop-i-preserved
loop-i-preserved c = λ ds e a l. subst (λ (n : ℕ). Going c.args.file.now ds c.args.n c.skip-p.result n e) (omega arith) (going_more (c.loop-i.invariant ds e a l) (omega arith) (λ x f d. c.skip-p.ensures f (at-standing d)))

pub returns : goal.returns
returns c = λ ds e a l. going_end (c.loop-i.invariant ds e a l) (omega arith)

-- `utf8::highest` meets its contract: it is the definition's table. Assumes nothing.
use native.Mathlib.Omega.{arith}
use Rattle.std.proofs.lemmas.Bool.Decides.{nat_tests}
use Rattle.utf8.specs.Check.{highest}
use Rattle.utf8.proofs.highest.Goals as goal

pub returns-in-237 : goal.returns-in-237
unfolding highest
returns-in-237 c = rw c.in-237.is

pub returns-in-244 : goal.returns-in-244
unfolding highest
returns-in-244 c = rw c.in-244.is

pub returns-in_default : goal.returns-in_default
unfolding highest
returns-in_default c = grind (arith, nat_tests)

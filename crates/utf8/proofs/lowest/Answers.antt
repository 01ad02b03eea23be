-- `utf8::lowest` meets its contract: it is the definition's table. Assumes nothing.
use native.Mathlib.Omega.{arith}
use Rattle.std.proofs.lemmas.Bool.Decides.{nat_tests}
use Rattle.utf8.specs.Check.{lowest}
use Rattle.utf8.proofs.lowest.Goals as goal

pub returns-in-224 : goal.returns-in-224
unfolding lowest
returns-in-224 c = rw c.in-224.is

pub returns-in-240 : goal.returns-in-240
unfolding lowest
returns-in-240 c = rw c.in-240.is

pub returns-in_default : goal.returns-in_default
unfolding lowest
returns-in_default c = grind (arith, nat_tests)

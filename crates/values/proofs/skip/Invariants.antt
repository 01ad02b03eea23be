-- What is left to pass over, whatever it is, stands from here up to the same end; a count that cannot be true stands nowhere.
use mathlib.Core.Path.{◌≡◌}
use Prim.Native.Nat.{ℕ, ◌-◌}
use lib.ListN.{length}
use Rattle.values.specs.Standing.{Standing}
use Rattle.values.proofs.skip.Given as goal

abbrev pub invariant-loop-left : goal.invariant-loop-left
invariant-loop-left l = (e : ℕ) → Standing l.file 1 l.at e → Standing l.file l.left l.p e

abbrev pub decreases-loop-left : goal.decreases-loop-left
decreases-loop-left l = length l.file - l.p

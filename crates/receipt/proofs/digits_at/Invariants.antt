-- What is left to read, after the digits that are read, gives the line. Assumes nothing.
use mathlib.Core.Path.{◌≡◌}
use Prim.Native.Nat.{◌-◌}
use lib.ListN.{length, drop}
use Rattle.receipt.specs.Steps.{digits_at}
use Rattle.receipt.proofs.digits_at.Given as goal

abbrev pub invariant-loop-i : goal.invariant-loop-i
invariant-loop-i l = digits_at (drop l.i l.bytes) l.said l.i ≡ digits_at (drop l.at l.bytes) l.number l.at

abbrev pub decreases-loop-i : goal.decreases-loop-i
decreases-loop-i l = length l.bytes - l.i

-- What is left of the values stands from here up to the same end.
use Prim.Native.Nat.{ℕ, ◌+◌, ◌-◌, ◌≤◌}
use lib.ListN.{length}
use Rattle.values.specs.Standing.{Standing}
use Rattle.values.proofs.over_run.Given as goal

abbrev pub invariant-loop-i : goal.invariant-loop-i
invariant-loop-i l = (l.p ≤ l.q) × (l.q ≤ length l.file) × ((m e : ℕ) → Standing l.file (l.n + m) l.p e → Standing l.file (l.n - l.i + m) l.q e)

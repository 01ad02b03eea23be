-- No byte so far is larger than the largest, which is below all that they are below.
use Prim.Native.Nat.{ℕ, ◌+◌, ◌<◌, ◌≤◌}
use lib.ListN.{get_or}
use Rattle.values.proofs.all_low.Given as goal

abbrev pub invariant-loop-b : goal.invariant-loop-b
invariant-loop-b l =
    ((j : ℕ) → j < l.b-index → get_or l.file (l.at + j) 0 ≤ l.most) × ((m : ℕ) → 0 < m → ((j : ℕ) → j < l.b-index → get_or l.file (l.at + j) 0 < m) → l.most < m)

-- `utf8::bits` meets its contract: a number is at most its bitwise or with another, so no byte passed exceeds `all`. Assumes nothing.
use Prim.Native.Nat.{ℕ, ◌+◌, ◌≤◌, ◌<◌}
use lib.ListN.{get_or}
use Rattle.utf8.proofs.bits.Given as goal

abbrev pub invariant-loop-byte : goal.invariant-loop-byte
invariant-loop-byte l = (j : ℕ) → j < l.byte-index → get_or l.bytes (l.at + j) 0 ≤ l.all

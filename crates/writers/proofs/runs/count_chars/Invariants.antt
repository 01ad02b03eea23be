-- The loop's invariant: `n` runs are begun, the last with `v`, and the cells from `i` on are still to come.
use Rattle.std.proofs.Common.{◌≤◌, map, length, drop, pos}
use Rattle.writers.specs.Laws.Runs.{Counted}
use Rattle.writers.proofs.runs.count_chars.Given as goal

abbrev pub invariant-loop-i : goal.invariant-loop-i
invariant-loop-i l = (l.i ≤ length l.values) × (l.n ≤ l.i) × Counted (map pos l.values) (pos l.v) l.n (map pos (drop l.i l.values))

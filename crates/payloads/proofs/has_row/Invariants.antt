-- Where each block has a number that is no limit, no row of limits is long (`broken-more`, `broken-rows`).
use Rattle.std.proofs.Common.{◌-◌, ◌≤◌}
use Rattle.payloads.specs.Laws.Limits.{Broken}
use Rattle.payloads.proofs.has_row.Given as goal

abbrev pub invariant-loop-i : goal.invariant-loop-i
invariant-loop-i l = (l.i ≤ l.count) × Broken l.two l.payload l.i

abbrev pub decreases-loop-i : goal.decreases-loop-i
decreases-loop-i l = l.count - l.i

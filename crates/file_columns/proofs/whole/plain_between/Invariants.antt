-- The numbers before the place pass or not, and those from it on decide (`passing-on`).
use Rattle.std.proofs.Common.{◌-◌, ◌≤◌, length}
use Rattle.numbers.specs.Ranges.{between}
use Rattle.file_columns.specs.Laws.Passing.{Passing}
use Rattle.file_columns.proofs.whole.plain_between.Given as goal

abbrev pub invariant-loop-at : goal.invariant-loop-at
invariant-loop-at l = (l.at ≤ length l.payload) × Passing (between l.low l.high) l.n l.size l.payload l.at l.fine

abbrev pub decreases-loop-at : goal.decreases-loop-at
decreases-loop-at l = length l.payload - l.at

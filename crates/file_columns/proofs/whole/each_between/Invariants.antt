-- The sums that are left of the run decide (`results-first`).
use Rattle.std.proofs.Common.{◌-◌}
use Rattle.numbers.specs.Ranges.{between}
use Rattle.file_columns.specs.Laws.Passing.{RunLeft}
use Rattle.file_columns.proofs.whole.each_between.Given as goal

abbrev pub invariant-loop : goal.invariant-loop
invariant-loop l = RunLeft (between l.low l.high) l.value l.sum l.count l.x (l.count - l.counter)

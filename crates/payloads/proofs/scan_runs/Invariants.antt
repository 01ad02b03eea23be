-- What is kept of the runs before the place (`kept_run`) says the answer at the end (`kept-end`).
use Rattle.std.proofs.Common.{◌-◌, ◌≤◌, length}
use Rattle.payloads.specs.Laws.Scan.{Kept}
use Rattle.payloads.proofs.scan_runs.Given as goal

abbrev pub invariant-loop-value : goal.invariant-loop-value
invariant-loop-value l = (l.at ≤ length l.payload) × Kept l.range l.delta l.length l.payload l.at l.left l.over l.exact

abbrev pub decreases-loop-value : goal.decreases-loop-value
decreases-loop-value l = length l.payload - l.at

-- What is kept of the runs before the place (`kept_run`) says the refusal at the end (`kept-end`).
use Rattle.std.proofs.Common.{◌-◌, ◌≤◌, Bool, false, length}
use Rattle.payloads.specs.Laws.Scan.{Kept}
use Rattle.payloads.proofs.count_runs.Given as goal

abbrev pub invariant-loop-count : goal.invariant-loop-count
invariant-loop-count l = (l.at ≤ length l.payload) × (ok : Bool) × Kept l.range false l.length l.payload l.at l.left l.over ok

abbrev pub decreases-loop-count : goal.decreases-loop-count
decreases-loop-count l = length l.payload - l.at

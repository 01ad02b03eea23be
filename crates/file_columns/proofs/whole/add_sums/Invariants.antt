-- The sums that are left decide, and bring the tally to the same end (`sums_on`, `sums-off`).
use Rattle.std.proofs.Common.{◌≡◌, ◌-◌, true, replicate}
use Rattle.steps.specs.Delta.{results_from, last_from}
use Rattle.file_columns.specs.Passing.{Sound}
use Rattle.file_columns.specs.Laws.Passing.{Onward}
use Rattle.file_columns.proofs.whole.add_sums.Given as goal

abbrev pub invariant-loop : goal.invariant-loop
invariant-loop l =
    Sound l.t × Onward l.types l.atoms l.bonds l.initial.t (results_from true l.initial.t.last (replicate l.count l.value)) l.t (results_from true l.t.last (replicate (l.count - l.counter) l.value))
    × (last_from true l.initial.t.last (replicate l.count l.value) ≡ last_from true l.t.last (replicate (l.count - l.counter) l.value))

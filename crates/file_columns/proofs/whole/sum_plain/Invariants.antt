-- The answer of the tally with the numbers from here on is the answer of all (`numbers_on`, `numbers-off`).
use Rattle.std.proofs.Common.{◌≡◌, ◌-◌, ◌≤◌, false, length, drop}
use Rattle.steps.specs.declared.Form.TheVariants.{Plain}
use Rattle.steps.specs.Numbers.{numbers_in}
use Rattle.steps.specs.Payload.{read_in}
use Rattle.file_columns.specs.Passing.{held_sums, Sound}
use Rattle.file_columns.specs.Laws.Passing.{sums_after}
use Rattle.file_columns.proofs.whole.sum_plain.Given as goal

abbrev pub invariant-loop-at : goal.invariant-loop-at
invariant-loop-at l =
    (l.at ≤ length l.payload) × Sound l.tally
    × (held_sums l.types l.atoms l.bonds l.n false (read_in (Plain l.size) l.payload) ≡ sums_after l.types l.atoms l.bonds l.tally (numbers_in l.size (drop l.at l.payload)))

abbrev pub decreases-loop-at : goal.decreases-loop-at
decreases-loop-at l = length l.payload - l.at

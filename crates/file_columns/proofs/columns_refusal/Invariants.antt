-- The columns before are fine; the one at hand is judged.
use Rattle.std.proofs.Common.{◌≡◌, drop}
use Rattle.file_columns.specs.Columns.{columns, columns_number, first_number}
use Rattle.file_columns.specs.Steps.{WalkedFields}
use Rattle.file_columns.proofs.columns_refusal.Given as goal

abbrev pub invariant-loop-i : goal.invariant-loop-i
invariant-loop-i l = WalkedFields l.file l.places (λ es. columns_number es ≡ first_number (drop l.i columns) es)

-- The columns before are long enough; the one at hand is judged.
use Rattle.std.proofs.Common.{◌≡◌, drop}
use Rattle.file_columns.specs.Columns.{columns, lengths_in, lengths_fit}
use Rattle.file_columns.specs.Steps.{WalkedColumns}
use Rattle.file_columns.proofs.lengths_fit.Given as goal

abbrev pub invariant-loop-i : goal.invariant-loop-i
invariant-loop-i l = WalkedColumns l.file l.places (λ es. lengths_fit (lengths_in columns es) l.atoms l.groups l.chains ≡ lengths_fit (lengths_in (drop l.i columns) es) l.atoms l.groups l.chains)

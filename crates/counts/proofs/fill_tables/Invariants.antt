-- The types before are fine and stand in the tables; the one at hand is judged.
use mathlib.Core.Path.{◌≡◌}
use Prim.Native.Nat.{◌≤◌}
use lib.ListN.{length}
use Rattle.values.specs.Walked.{Short, WalkedAll}
use Rattle.file_columns.specs.Passing.{Hold}
use Rattle.counts.proofs.Laws.Tables.{Judged}
use Rattle.counts.proofs.fill_tables.Given as goal

abbrev pub invariant-loop-i : goal.invariant-loop-i
invariant-loop-i l = (l.i ≤ l.n) × Hold l.n l.atoms l.bonds × (length l.atoms ≡ length l.initial.atoms) × (length l.bonds ≡ length l.initial.bonds) × (Short l.file → WalkedAll l.file l.n l.at (λ ts e. Judged l.file ts l.i l.n l.p e l.initial.atoms l.initial.bonds l.atoms l.bonds))

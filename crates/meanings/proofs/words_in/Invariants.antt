-- What is found from the row that is looked at on is what is found in the table.
use mathlib.Core.Path.{◌≡◌}
use Prim.Native.Nat.{◌-◌}
use lib.ListN.{length}
use Rattle.meanings.specs.Steps.{words_in}
use Rattle.meanings.specs.Laws.Steps.{from}
use Rattle.meanings.proofs.words_in.Given as goal

abbrev pub invariant-loop-row : goal.invariant-loop-row
invariant-loop-row l = from l.table l.number l.row ≡ words_in l.table l.number

abbrev pub decreases-loop-row : goal.decreases-loop-row
decreases-loop-row l = length l.table - l.row

-- The receipts before a place are entered; the next one is, or entering stops there. Assumes nothing.
use Rattle.std.proofs.Common.{◌-◌, ◌<◌, length}
use Rattle.bill.specs.Steps.{ledger}
use Rattle.bill.specs.Laws.Ledger.{Entering}
use Rattle.bill.proofs.enter.Given as goal

abbrev pub invariant-loop-at : goal.invariant-loop-at
invariant-loop-at l =
    (length l.receipts < 18446744073709551616) × Entering l.receipts l.ends (ledger l.initial.jobs l.initial.accepted l.initial.refused) (ledger l.jobs l.accepted l.refused) l.at l.count

abbrev pub decreases-loop-at : goal.decreases-loop-at
decreases-loop-at l = length l.receipts - l.at

-- What is counted and what is left give the size. Assumes nothing.
use Rattle.std.proofs.Common.{◌≡◌, suc, ◌+◌, ◌*◌, ◌≤◌, length}
use Rattle.bill.specs.Run.{stations}
use Rattle.bill.specs.Bill.{entries_text}
use Rattle.bill.specs.Ledger.{ledger_entries}
use Rattle.receipt.specs.Receipt.{station_limit}
use Rattle.bill.specs.Laws.Entries.{text_left}
use Rattle.bill.proofs.entries_size.Given as goal

abbrev pub invariant-loop-station : goal.invariant-loop-station
invariant-loop-station l =
    (l.station ≤ suc station_limit) × (l.size ≤ 58 * l.station) × (l.size + length (text_left l.station l.accepted l.refused) ≡ length (entries_text (ledger_entries stations l.accepted l.refused)))

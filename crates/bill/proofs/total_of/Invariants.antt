-- What is added and what is left give the total. Assumes nothing.
use Rattle.std.proofs.Common.{◌≡◌, suc, ◌+◌, ◌%◌, ◌<◌, ◌≤◌}
use Rattle.bill.specs.Run.{stations}
use Rattle.bill.specs.Ledger.{ledger_total}
use Rattle.receipt.specs.Receipt.{station_limit}
use Rattle.bill.specs.Laws.Entries.{stations_left}
use Rattle.bill.proofs.total_of.Given as goal

abbrev pub invariant-loop-station : goal.invariant-loop-station
invariant-loop-station l =
    (l.station ≤ suc station_limit) × (l.total < 4294967296) × ((l.total + ledger_total (stations_left l.station) l.accepted) % 4294967296 ≡ ledger_total stations l.accepted % 4294967296)

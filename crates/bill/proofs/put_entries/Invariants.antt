-- The entries before a station are put, and the rest is left. Assumes nothing.
use Rattle.std.proofs.Common.{suc, ◌≤◌}
use Rattle.receipt.specs.Receipt.{station_limit}
use Rattle.bill.specs.Laws.Entries.{Putting}
use Rattle.bill.proofs.put_entries.Given as goal

abbrev pub invariant-loop-station : goal.invariant-loop-station
invariant-loop-station l = (l.station ≤ suc station_limit) × Putting l.initial.buffer l.station l.accepted l.refused l.buffer l.next

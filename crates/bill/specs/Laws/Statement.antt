-- The statement of the bill holds: each part is a law of its own. Assumes nothing.
use Rattle.bill.specs.Statement.{ExactBill}
use Rattle.bill.specs.Laws.Run as run
use Rattle.bill.specs.Laws.Sums as sums
use Rattle.bill.specs.Laws.Units as units
use Rattle.bill.specs.Laws.Answer as answer

pub exact-bill : ExactBill
exact-bill = record {
  one-run = λ bytes rs ts i j. run.one-run i j;
  billed-exactly = answer.billed-exactly;
  bill-written = answer.bill-written;
  room-enough = answer.answered-room;
  station-units = units.units-station;
  total-units = units.units-total;
  entries-total = sums.entries-accepted;
  entries-receipts = sums.entries-receipts;
  stations-rise = sums.entries-rise;
}

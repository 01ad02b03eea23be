-- Demand 3 holds: each part is a law of its own.
-- Assumes nothing.
use Rattle.messagepack.proofs.Laws.Unique.{no-two-documents}
use Rattle.structure.proofs.Laws.Accepted as structure
use Rattle.receipt.specs.Demand.{Demand3}
use Rattle.receipt.specs.Laws.File.{receipt-left, unit-accepted, unit-refused}

pub demand-3 : Demand3
demand-3 = record {
  accepted-exactly = structure.accepted-exactly;
  one-document = no-two-documents;
  receipt-written = receipt-left;
  one_unit = λ station job file bytes r a. unit-accepted r.of a;
  no-unit = λ station job file bytes r known h. unit-refused known r.of h;
}

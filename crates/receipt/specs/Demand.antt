-- Demand 3, whole, as one statement. `Accepted`, and `ReceiptOf` of an accepted file, are stated outwards from the file's document; `ReceiptOf` of a
-- refused file shows the file's own number, `verdict_of`, which is defined by the order of the refusals. `verdict_of`, `receipt_answer` and `receipt_buffer` are what
-- `structure::verdict` and `receipt::write` answer and leave, by their contracts. No lemma stands here: that it holds is `demand-3` of
-- Laws/Demand.antt. Assumes nothing.
use Rattle.std.specs.Prelude.{◌≡◌, Ok, List, ◌↔◌, ℕ, length, take}
use Rattle.numbers.specs.BigEndian.{Bytes}
use Rattle.messagepack.specs.Document.{Document, Writes}
use Rattle.structure.specs.Accepted.{Accepted, verdict_of}
use Rattle.receipt.specs.File.{Receipted, receipt_answer, receipt_buffer}

pub record Demand3 : Type 0 where
  -- the verdict on any bytes is 0 exactly when they are an accepted file
  pub accepted-exactly : (file : List ℕ) → Bytes file → (verdict_of file ≡ 0) ↔ Accepted file
  -- bytes are a writing of at most one document, be they an accepted file or not
  pub one-document : (d e : Document) (bytes : List ℕ) → Writes d bytes → Writes e bytes → d ≡ e
  -- whenever writing answers that n bytes are written, the first n of the buffer are the receipt of the file, with verdict and counts as said
  pub receipt-written : (station job : ℕ) (file buffer : List ℕ) (n : ℕ) → Bytes file → receipt_answer station job file (length buffer) ≡ Ok n
      → Receipted station job file (take n (receipt_buffer station job file buffer))
  -- a receipt of a file shows one unit if the file is accepted
  pub one_unit : (station job : ℕ) (file bytes : List ℕ) (r : Receipted station job file bytes) → Accepted file → r.receipt.units ≡ 1
  -- a receipt of a file shows no unit if the file is refused
  pub no-unit : (station job : ℕ) (file bytes : List ℕ) (r : Receipted station job file bytes) → Bytes file → (Accepted file → ⊥) → r.receipt.units ≡ 0

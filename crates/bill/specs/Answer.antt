-- What billing bytes answers and leaves in a buffer, for any bytes and any room: the first refusal by the stated order, or the bill (paper 02,
-- wish 1). A receipt that cannot be read ends what stands at the front of the bytes, so that a receipt at fault there comes before it. Then what is
-- said of bytes that were billed, without a reader. No lemma stands here: the laws are in Laws/Answer.antt. Assumes nothing.
use Rattle.std.specs.Prelude.{◌≡◌, Result, Err, ℕ, zero, suc, ◌+◌, ◌*◌, ◌≤◌, true, cond, List, [], ◌∷◌, length, drop, ◌==◌, nat_le}
use Rattle.refusal.specs.Table.{accepted, file_over_limit, receipt_malformed, job_not_rising}
use Rattle.refusal.specs.First.{or_else, unless}
use Rattle.refusal.specs.Outcome.{answered}
use Rattle.refusal.specs.Answer.{leaves}
use Rattle.messagepack.specs.Limits.{file_limit}
use Rattle.text.specs.Equal.{equal}
use Rattle.receipt.specs.declared.Receipt.{Receipt}
use Rattle.receipt.specs.Receipt.{station_limit, written}
use Rattle.receipt.specs.Reading.{read_from, has_front}
use Rattle.bill.specs.Run.{texts, IsRun, rising}
use Rattle.bill.specs.Bill.{bill_of, bill_text}

-- the receipts at the front of the bytes, one after another as long as one stands there; at most k of them
unfoldable pub receipts_in : ℕ → List ℕ → List Receipt
receipts_in zero bytes = []
receipts_in (suc k) bytes = cond (has_front bytes) (read_from bytes ∷ receipts_in k (drop (length (written (read_from bytes))) bytes)) []

-- all of them: there are no more than bytes
abbrev pub front_receipts : List ℕ → List Receipt
front_receipts bytes = receipts_in (length bytes) bytes

-- the refusal of a run: 30 if a job at the front does not rise; 29 if the receipts at the front are not all of the bytes
unfoldable pub run_number : List ℕ → ℕ
run_number bytes =
    or_else (unless (rising (front_receipts bytes)) job_not_rising) (unless (equal (texts (front_receipts bytes)) bytes) receipt_malformed)

-- the refusal of bytes: 1 if they are over the limit, then that of the run
unfoldable pub bill_number : List ℕ → ℕ
bill_number bytes = or_else (unless (nat_le (length bytes) file_limit) file_over_limit) (run_number bytes)

-- the text of the bill
unfoldable pub text_of : List ℕ → List ℕ
text_of bytes = bill_text (bill_of (front_receipts bytes))

-- what billing answers for a buffer with so much room: the refusal, then 25, else how many bytes were written
unfoldable pub bill_answer : List ℕ → ℕ → Result ℕ ℕ
bill_answer bytes room = cond (bill_number bytes == accepted) (answered (length (text_of bytes)) room) (Err (bill_number bytes))

-- what the buffer holds afterwards: the bill and then what was there; on refusal what was there
unfoldable pub bill_buffer : List ℕ → List ℕ → List ℕ
bill_buffer bytes buffer = cond (bill_number bytes == accepted) (leaves (text_of bytes) buffer) buffer

-- the most bytes of a bill: three lines for each station and the total, whose numbers have at most six digits
abbrev pub bill_limit : ℕ
bill_limit = station_limit * 46 + 13

-- the bytes are a run whose jobs rise, within the limit
pub record Billable (bytes : List ℕ) : Type 0 where
  pub receipts : List Receipt
  pub run : IsRun bytes receipts
  pub order : rising receipts ≡ true
  pub small : length bytes ≤ file_limit

-- the text is the bill of the receipts that the bytes are
pub record Billed (bytes text : List ℕ) : Type 0 where
  pub of : Billable bytes
  pub is : text ≡ bill_text (bill_of of.receipts)

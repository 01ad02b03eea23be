-- The receipt of a file (paper 01, "Views and the receipt"; demand 3), stated twice: by what the file is (`ReceiptOf`), and by the summary of the
-- file check (`receipt_by`). `ReceiptOf` states the receipt of an accepted file outwards from its document; that of a refused file shows the file's
-- own number, `verdict_of`, which is defined by the order of the refusals. Then what writing a receipt answers, and what it leaves in the buffer.
-- No lemma stands here: the laws are in Laws/File.antt. Assumes nothing.
use Rattle.std.specs.Prelude.{cond, Result, Err, List, ℕ, eqb, length}
use Rattle.std.specs.Int.Count.{ones}
use Rattle.refusal.specs.Table.{accepted, receipt_malformed}
use Rattle.refusal.specs.Outcome.{answered}
use Rattle.refusal.specs.Answer.{leaves}
use Rattle.structure.specs.Accepted.{Accepted, verdict_of}
use Rattle.structure.specs.Summary.{accepted_summary, refused, summary_of}
use Rattle.structure.specs.declared.Summary.{Summary}
use Rattle.receipt.specs.Receipt.{numbered, written, IsReceipt}
use Rattle.receipt.specs.declared.Receipt.{Receipt}

-- one unit for verdict 0, none for any other
abbrev pub units_of : ℕ → ℕ
units_of verdict = cond (eqb verdict accepted) 1 0

-- the numbers of a receipt by what is said of a file; fields are the ones in the set of its named fields
abbrev pub receipt_by : ℕ → ℕ → Summary → Receipt
receipt_by station job s =
    record {
      station = station;
      job = job;
      verdict = s.verdict;
      models = s.models;
      chains = s.chains;
      groups = s.groups;
      atoms = s.atoms;
      bonds = s.bonds;
      fields = ones s.presence;
      units = units_of s.verdict;
    }

-- the receipt of a file: of an accepted one with verdict 0, the counts and fields of its document and one unit; of any other with its own number,
-- zeros and no unit
pub data ReceiptOf (station job : ℕ) (file : List ℕ) : Receipt → Type 0 where
  accepts : (a : Accepted file) → ReceiptOf station job file (receipt_by station job (accepted_summary a.entries))
  refuses : (Accepted file → ⊥) → ReceiptOf station job file (receipt_by station job (refused (verdict_of file)))

-- the bytes are a receipt, and the receipt of a file
pub record Receipted (station job : ℕ) (file bytes : List ℕ) : Type 0 where
  pub receipt : Receipt
  pub of : ReceiptOf station job file receipt
  pub is : IsReceipt bytes receipt

-- the bytes that are written for a file
unfoldable pub receipt_text : ℕ → ℕ → List ℕ → List ℕ
receipt_text station job file = written (receipt_by station job (summary_of file))

-- what writing answers for a buffer of n bytes: 29 for a station or a job out of range, then 25, else the number of bytes
unfoldable pub receipt_answer : ℕ → ℕ → List ℕ → ℕ → Result ℕ ℕ
receipt_answer station job file n = cond (numbered station job) (answered (length (receipt_text station job file)) n) (Err receipt_malformed)

-- what the buffer holds afterwards: the receipt and then what was there; on refusal what was there
unfoldable pub receipt_buffer : ℕ → ℕ → List ℕ → List ℕ → List ℕ
receipt_buffer station job file buffer = cond (numbered station job) (leaves (receipt_text station job file) buffer) buffer

-- The receipt that is written for a file, and the verdict in it. No lemma stands here: the laws are in Laws/Receipts.antt. Assumes nothing.
use Rattle.std.specs.Prelude.{◌≡◌, Result, Ok, Err, List, ℕ, ◌≤◌, ◌%◌, length, take}
use Rattle.structure.specs.Accepted.{verdict_of}
use Rattle.receipt.specs.File.{Receipted}
use Rattle.receipt.specs.declared.Receipt.{Receipt}
use Rattle.station.specs.declared.receipts.Made.{Made}

-- the verdict in a receipt that was read, which is below 256; or the number of the refusal
abbrev pub verdict_in : Result Receipt ℕ → ℕ
verdict_in (Ok r) = r.verdict % 256
verdict_in (Err n) = n

-- what was made: the bytes at the buffer's start are the receipt of the file, and the verdict is that on the file
pub record IsMade (station job : ℕ) (file buffer : List ℕ) (made : Made) : Type 0 where
  pub inside : made.bytes ≤ length buffer
  pub receipt : Receipted station job file (take made.bytes buffer)
  pub judged : made.verdict ≡ verdict_of file

abbrev pub MadeOf : {E : Type 0} → ℕ → ℕ → List ℕ → List ℕ → Result Made E → Type 0
MadeOf station job file buffer (Ok made) = IsMade station job file buffer made
MadeOf station job file buffer (Err e) = Unit {0}

-- The month's bill, whole, as one statement. `IsRun`, `rising` and `bill_of` are stated outwards from receipts, with no reader in them; `bill_answer` and
-- `bill_buffer` are what `bill::bill` answers and leaves, by its contract. No lemma stands here: that it holds is `exact-bill` of Laws/Statement.antt.
-- Assumes nothing.
use Rattle.std.specs.Prelude.{◌≡◌, Ok, Err, ℕ, ◌+◌, ◌≤◌, true, ◌↔◌, List, length, take, ◌≢◌}
use Rattle.refusal.specs.Table.{buffer_too_small}
use Rattle.receipt.specs.declared.Receipt.{Receipt}
use Rattle.bill.specs.Run.{all_kept, IsRun, increasing}
use Rattle.bill.specs.Bill.{is_of, accepted_of, bill_of}
use Rattle.bill.specs.Answer.{text_of, bill_answer, bill_buffer, bill_limit, Billable, Billed}
use Rattle.bill.specs.Sums.{entries_accepted, entries_refused, stations_in, units_sum}

pub record ExactBill : Type 0 where
  -- no bytes are the runs of two lists of receipts
  pub one-run : (bytes : List ℕ) (rs ts : List Receipt) → IsRun bytes rs → IsRun bytes ts → rs ≡ ts
  -- with the stated room, bytes are billed exactly when they are a run within the limit whose jobs rise within each station
  pub billed-exactly : (bytes : List ℕ) (room : ℕ) → bill_limit ≤ room → (bill_answer bytes room ≡ Ok (length (text_of bytes))) ↔ Billable bytes
  -- whenever n bytes are written, the first n of the buffer are the bill of the receipts
  pub bill-written : (bytes buffer : List ℕ) (n : ℕ) → bill_answer bytes (length buffer) ≡ Ok n → Billed bytes (take n (bill_buffer bytes buffer))
  -- that room is never too small
  pub room-enough : (bytes : List ℕ) (room : ℕ) → bill_limit ≤ room → bill_answer bytes room ≢ Err buffer_too_small
  -- a station's accepted jobs are the sum of its units lines, and the total is that of all
  pub station-units : (s : ℕ) (rs : List Receipt) → all_kept rs ≡ true → accepted_of s rs ≡ units_sum (is_of s) rs
  pub total-units : (rs : List Receipt) → all_kept rs ≡ true → (bill_of rs).total ≡ units_sum (λ (r : Receipt). true) rs
  -- the entries' accepted jobs are the total, and with the refused ones they are all receipts
  pub entries-total : (rs : List Receipt) → all_kept rs ≡ true → entries_accepted (bill_of rs).entries ≡ (bill_of rs).total
  pub entries-receipts : (rs : List Receipt) → all_kept rs ≡ true → entries_accepted (bill_of rs).entries + entries_refused (bill_of rs).entries ≡ length rs
  -- stations rise
  pub stations-rise : (rs : List Receipt) → increasing (stations_in (bill_of rs).entries) ≡ true

-- For the code: the ledger that receipts are entered into one after another, what entering bytes or a piece of them does, and the bill of a ledger.
-- The library enters all bytes at once; a program that holds a piece at a time enters one after another, and `pieces-joined` of Laws/Pieces.antt
-- says that this is the same. No lemma stands here. Assumes nothing.
use Rattle.std.specs.Prelude.{◌≡◌, ℕ, suc, ◌+◌, ◌%◌, ◌<◌, ◌≤◌, Bool, true, false, cond, ◌&&◌, List, [], ◌∷◌, ◌++◌, length, drop, replicate, ◌==◌, nat_lt, slice_index, slice_set}
use Rattle.refusal.specs.Table.{accepted, receipt_malformed, job_not_rising}
use Rattle.refusal.specs.Outcome.{number_of}
use Rattle.receipt.specs.declared.Receipt.{Receipt}
use Rattle.receipt.specs.Receipt.{receipt_limit, station_limit}
use Rattle.receipt.specs.Reading.{read_from, has_front}
use Rattle.bill.specs.declared.Entered.{Entered}
use Rattle.bill.specs.declared.Ledger.{Ledger}
use Rattle.bill.specs.Run.{texts, all_kept, stations}
use Rattle.bill.specs.Bill.{Entry, Bill, is_accepted}

-- a ledger with nothing in it
abbrev pub blank : Ledger
blank = record { jobs = replicate (suc station_limit) 0; accepted = replicate (suc station_limit) 0; refused = replicate (suc station_limit) 0 }

-- a column with one more at a station, modulo 2 ^ 32
abbrev pub raised : List ℕ → ℕ → List ℕ
raised column s = slice_set column s ((slice_index column s + 1) % 4294967296)

-- the ledger after a receipt
abbrev pub posted : Ledger → Receipt → Ledger
posted l r = record {
  jobs = slice_set l.jobs r.station r.job;
  accepted = cond (is_accepted r) (raised l.accepted r.station) l.accepted;
  refused = cond (is_accepted r) l.refused (raised l.refused r.station);
}

unfoldable pub posted_all : Ledger → List Receipt → Ledger
posted_all l [] = l
posted_all l (r ∷ rs) = posted_all (posted l r) rs

-- whether a receipt's job is above the last job of its station, and whether each is in its turn
abbrev pub rises : Ledger → Receipt → Bool
rises l r = nat_lt (slice_index l.jobs r.station) r.job

unfoldable pub all_rise : Ledger → List Receipt → Bool
all_rise l [] = true
all_rise l (r ∷ rs) = rises l r && all_rise (posted l r) rs

-- how many bytes are left at least where a receipt is looked for: one where the bytes end with the run, else as many as the longest receipt has
abbrev pub least : Bool → ℕ
least ends = cond ends 1 receipt_limit

-- why entering stops before what is left: too little is left, or there is no receipt, or its job does not rise
pub data Stops (ends : Bool) (l : Ledger) (rest : List ℕ) : ℕ → Type 0 where
  few : length rest < least ends → Stops ends l rest accepted
  malformed : least ends ≤ length rest → has_front rest ≡ false → Stops ends l rest receipt_malformed
  falling : least ends ≤ length rest → has_front rest ≡ true → rises l (read_from rest) ≡ false → Stops ends l rest job_not_rising

-- what entering bytes into a ledger does: receipts that stand at their front, each with a rising job and with enough bytes from it on, are posted, up
-- to where it stops
pub record Enters (bytes : List ℕ) (ends : Bool) (old new : Ledger) (r : Entered) : Type 0 where
  pub receipts : List Receipt
  pub rules : all_kept receipts ≡ true
  pub within : r.bytes ≤ length bytes
  pub text : bytes ≡ texts receipts ++ drop r.bytes bytes
  pub count : r.receipts ≡ length receipts
  pub order : all_rise old receipts ≡ true
  pub enough : (k : ℕ) → k < length receipts → least ends ≤ length (texts (drop k receipts)) + length (drop r.bytes bytes)
  pub ledger : new ≡ posted_all old receipts
  pub stops : Stops ends new (drop r.bytes bytes) (number_of r.outcome)

-- the entries of those of some stations that have jobs in the ledger
unfoldable pub ledger_entries : List ℕ → List ℕ → List ℕ → List Entry
ledger_entries [] a r = []
ledger_entries (s ∷ ss) a r =
    cond (slice_index a s == 0 && slice_index r s == 0) (ledger_entries ss a r) (record { station = s; accepted = slice_index a s; refused = slice_index r s } ∷ ledger_entries ss a r)

-- the accepted jobs of some stations
unfoldable pub ledger_total : List ℕ → List ℕ → ℕ
ledger_total [] a = 0
ledger_total (s ∷ ss) a = slice_index a s + ledger_total ss a

-- the bill of a ledger with these accepted and refused jobs; the total is taken modulo 2 ^ 32
abbrev pub ledger_bill : List ℕ → List ℕ → Bill
ledger_bill a r = record { entries = ledger_entries stations a r; total = ledger_total stations a % 4294967296 }

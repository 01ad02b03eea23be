-- Worked bills: those of the receipt of paper 01 and of no receipts, on receipts and on bytes; and that receipt twice and cut short, which are refused.
-- Assumes nothing.
use Rattle.std.specs.Prelude.{◌≡◌, ℕ, ◌-◌, ◌<◌, Bool, true, false, List, [], ◌∷◌, ◌++◌, length, take, drop, nat_le, refl}
use Rattle.std.proofs.Common.{sym, ap, ◌∙◌, append_assoc, append-nil, arith, length-append, take-append-drop}
use Rattle.refusal.specs.Table.{accepted, receipt_malformed, job_not_rising}
use Rattle.messagepack.specs.Limits.{file_limit}
use Rattle.text.specs.Ascii.{ascii}
use Rattle.text.specs.Decimal.{decimal, decimal_in}
use Rattle.text.specs.Equal.{equal}
use Rattle.text.specs.Laws.Equal.{equal-refl}
use Rattle.receipt.specs.declared.Receipt.{Receipt}
use Rattle.receipt.specs.Receipt.{line, written, rules_kept}
use Rattle.receipt.specs.Reading.{read_from, has_front}
use Rattle.receipt.specs.Laws.Reading.{read-front, read-written, front-rules, front-text}
use Rattle.bill.specs.Run.{texts, all_kept, IsRun, stations_from, stations, jobs_of, above, increasing, rising_in, rising}
use Rattle.bill.specs.Bill.{counted, entries_in, bill_of, entry_text, entries_text, bill_text}
use Rattle.bill.specs.Answer.{run_number, bill_number, text_of}
use Rattle.bill.specs.Laws.Run.{receipts-none, front-run}

-- the receipt of paper 01
abbrev pub worked : Receipt
worked = record {
  station = 7;
  job = 12;
  verdict = 0;
  models = 1;
  chains = 4;
  groups = 302;
  atoms = 1023;
  bonds = 1142;
  fields = 16;
  units = 1;
}

worked_kept : rules_kept worked ≡ true
unfolding rules_kept
worked_kept = refl

-- its bytes
pub worked-written : written worked ≡ ascii "station=7\njob=12\nverdict=0\nmodels=1\nchains=4\ngroups=302\natoms=1023\nbonds=1142\nfields=16\nunits=1\n"
unfolding written line decimal decimal_in
worked-written = refl

-- the bill of it alone
pub bill-one : bill_text (bill_of (worked ∷ [])) ≡ ascii "station=7\naccepted=1\nrefused=0\ntotal=1\n"
unfolding bill_text entries_text entry_text entries_in counted stations stations_from line decimal decimal_in
bill-one = refl

-- the bill of no receipts
pub bill-none : bill_text (bill_of []) ≡ ascii "total=0\n"
unfolding bill_text entries_text entries_in counted stations stations_from line decimal decimal_in
bill-none = refl

-- On bytes

-- bytes that are a run of rising jobs, within the limit, are not refused
run-accepted : {bytes : List ℕ} {rs : List Receipt} → IsRun bytes rs → rising rs ≡ true → nat_le (length bytes) file_limit ≡ true → bill_number bytes ≡ accepted
unfolding bill_number run_number
run-accepted {bytes} {rs} i o l = rw (l, front-run i, o, ← i.text, equal-refl bytes)

-- those of jobs that do not rise are
run-falling : {bytes : List ℕ} {rs : List Receipt} → IsRun bytes rs → rising rs ≡ false → nat_le (length bytes) file_limit ≡ true → bill_number bytes ≡ job_not_rising
unfolding bill_number run_number
run-falling {bytes} {rs} i o l = rw (l, front-run i, o)

-- the text of a run's bill
run-text : {bytes : List ℕ} {rs : List Receipt} → IsRun bytes rs → text_of bytes ≡ bill_text (bill_of rs)
unfolding text_of
run-text i = rw (front-run i)

run-one : IsRun (written worked) (worked ∷ [])
unfolding texts all_kept rules_kept
run-one = record { rules = refl; text = sym (append-nil (written worked)) }

run-twice : IsRun (written worked ++ written worked) (worked ∷ worked ∷ [])
unfolding texts all_kept rules_kept
run-twice = record { rules = refl; text = ap (λ (l : List ℕ). written worked ++ l) (sym (append-nil (written worked))) }

run_none : IsRun [] []
unfolding texts all_kept
run_none = record { rules = refl; text = refl }

-- the receipt of paper 01
pub number-one : bill_number (written worked) ≡ accepted
unfolding written line decimal decimal_in rising_in stations stations_from jobs_of above increasing
number-one = run-accepted run-one refl refl

pub text-one : text_of (written worked) ≡ ascii "station=7\naccepted=1\nrefused=0\ntotal=1\n"
text-one = run-text run-one ∙ bill-one

-- no bytes
pub number-none : bill_number [] ≡ accepted
unfolding rising_in stations stations_from jobs_of increasing
number-none = run-accepted run_none refl refl

pub text-none : text_of [] ≡ ascii "total=0\n"
text-none = run-text run_none ∙ bill-none

-- a receipt twice: its job does not rise
pub number-twice : bill_number (written worked ++ written worked) ≡ job_not_rising
unfolding written line decimal decimal_in rising_in stations stations_from jobs_of above increasing
number-twice = run-falling run-twice refl refl

-- what is cut off a receipt leaves none
cut-front : (r : Receipt) (bytes rest : List ℕ) → rules_kept r ≡ true → written r ≡ bytes ++ rest → length bytes < length (written r) → has_front bytes ≡ false
cut-front r bytes rest h e l = go (has_front bytes) refl
  where
    go : (t : Bool) → has_front bytes ≡ t → has_front bytes ≡ false
    go false f = f
    go true f =
        let left : List ℕ = drop (length (written (read_from bytes))) bytes in
        let whole : written r ≡ written (read_from bytes) ++ (left ++ rest) = e ∙ ap (λ (x : List ℕ). x ++ rest) (front-text bytes f) ∙ append_assoc (written (read_from bytes)) left rest in
        let same : read_from bytes ≡ r = sym (read-front (read_from bytes) (left ++ rest) (front-rules bytes f)) ∙ ap read_from (sym whole) ∙ read-written r h in
        let size : length (written (read_from bytes)) ≡ length (written r) = ap (λ (x : Receipt). length (written x)) same in
        absurd (omega (arith, ap length (front-text bytes f), length-append (written (read_from bytes)) left))

-- the receipt without its last byte: no receipt stands there
pub number_cut : bill_number (take (length (written worked) - 1) (written worked)) ≡ receipt_malformed
unfolding bill_number run_number written line decimal decimal_in rising_in stations stations_from jobs_of increasing texts equal
number_cut =
    let size : ℕ = length (written worked) - 1 in
    let none = cut-front worked (take size (written worked)) (drop size (written worked)) worked_kept (sym (take-append-drop size (written worked))) (omega arith) in
    rw (receipts-none size (take size (written worked)) none)

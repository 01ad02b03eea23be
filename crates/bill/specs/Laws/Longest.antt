-- The longest bill: a run within the limit has fewer than 1,000,000 receipts, so that no number of its bill has more than six digits.
-- Assumes nothing.
use Rattle.std.proofs.Common.{ap, arith, length-append}
use Rattle.std.specs.Prelude.{ℕ, zero, suc, ◌+◌, ◌*◌, ◌<◌, ◌≤◌, Bool, true, false, cond, List, [], ◌∷◌, length, nat_lt}
use Prim.Native.String as Text
use Rattle.messagepack.specs.Limits.{file_limit}
use Rattle.text.specs.Ascii.{ascii}
use Rattle.receipt.specs.declared.Receipt.{Receipt}
use Rattle.receipt.specs.Receipt.{station_limit, named_line}
use Rattle.receipt.specs.Laws.Rules.{decimal-short, line-length}
use Rattle.bill.specs.Run.{IsRun, stations_from, stations}
use Rattle.bill.specs.Bill.{Entry, counted, is_of, is_accepted, receipts_of, accepted_of, refused_of, all_accepted, entries_in, bill_of, entry_text, entries_text, bill_text}
use Rattle.bill.specs.Answer.{bill_limit}
use Rattle.bill.specs.Laws.Run.{texts-least}
use Rattle.bill.specs.Laws.Sums.{receipts-apart}

-- below 1,000,000
abbrev Few : ℕ → Type 0
Few n = n < 1000000

-- no more receipts pass a test than there are
pub counted-most : (test : Receipt → Bool) (rs : List Receipt) → counted test rs ≤ length rs
unfolding counted
counted-most test [] = omega arith
counted-most test (r ∷ rs) = go (test r) (counted-most test rs)
  where
    go : (t : Bool) → counted test rs ≤ length rs → cond t (suc (counted test rs)) (counted test rs) ≤ suc (length rs)
    go true h = omega arith
    go false h = omega arith

-- a run within the limit is of few receipts, each of which has at least 86 bytes
pub run-few : {bytes : List ℕ} {rs : List Receipt} → IsRun bytes rs → length bytes ≤ file_limit → length rs < 1000000
run-few {bytes} {rs} i h = omega (arith, texts-least rs, ap length i.text)

-- a line with such a number: its name, two signs and at most six digits
line-few : (name : Text.String) (n : ℕ) → Few n → length (named_line name n) ≤ length (ascii name) + 8
line-few name n h =
    let d = decimal-short 5 n (omega arith) (omega arith) in
    omega (arith, line-length name n)

entry-few : (e : Entry) → Few e.station → Few e.accepted → Few e.refused → length (entry_text e) ≤ 46
unfolding entry_text
entry-few e s a r =
    let x = line-few "station" e.station s in
    let y = line-few "accepted" e.accepted a in
    let z = line-few "refused" e.refused r in
    simp length-append (omega arith)

-- the entries of so many stations
entries-few : (first k : ℕ) (rs : List Receipt) → first + k ≤ 1000000 → Few (length rs) → length (entries_text (entries_in (stations_from first k) rs)) ≤ k * 46
unfolding entries_text entries_in stations_from
entries-few first zero rs l f = omega arith
entries-few first (suc k) rs l f = go (nat_lt 0 (receipts_of first rs)) (entries-few (suc first) k rs (omega arith) f)
  where
    go : (t : Bool) → length (entries_text (entries_in (stations_from (suc first) k) rs)) ≤ k * 46
        → length (entries_text (cond t (record { station = first; accepted = accepted_of first rs; refused = refused_of first rs } ∷ entries_in (stations_from (suc first) k) rs) (entries_in (stations_from (suc first) k) rs))) ≤ suc k * 46
    go true h =
        let both = receipts-apart first rs in
        let most = counted-most (is_of first) rs in
        let e = entry-few (record { station = first; accepted = accepted_of first rs; refused = refused_of first rs }) (omega arith) (omega arith) (omega arith) in
        simp length-append (omega arith)
    go false h = omega arith

-- the bill of a run within the limit is not over the bill's
pub bill-most : {bytes : List ℕ} {rs : List Receipt} → IsRun bytes rs → length bytes ≤ file_limit → length (bill_text (bill_of rs)) ≤ bill_limit
unfolding bill_text stations
bill-most {bytes} {rs} i h =
    let f = run-few i h in
    let t : Few (all_accepted rs) = omega (arith, counted-most is_accepted rs) in
    let e = entries-few 1 station_limit rs (omega arith) f in
    let l = line-few "total" (all_accepted rs) t in
    simp length-append (omega arith)

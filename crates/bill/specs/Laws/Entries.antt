-- Laws of a ledger's bill: station by station, as the code goes through them. Assumes nothing.
use Rattle.std.specs.Prelude.{◌≡◌, Ok, Err, ℕ, zero, suc, ◌+◌, ◌-◌, ◌*◌, ◌%◌, ◌<◌, ◌≤◌, Bool, true, false, cond, ◌&&◌, List, [], ◌∷◌, ◌++◌, length, ◌==◌, nat_le, slice_index, refl}
use Rattle.std.proofs.Common.{sym, ap, ◌∙◌, append_assoc, append-nil, arith, length-append, le-leb}
use Rattle.std.proofs.Math.Nat.{mod-add-mod}
use Rattle.std.proofs.lemmas.Bool.{lt-leb}
use Rattle.refusal.specs.Table.{buffer_too_small}
use Rattle.refusal.specs.Outcome.{answered}
use Rattle.refusal.specs.Answer.{leaves}
use Rattle.text.specs.Decimal.{decimal}
use Rattle.text.specs.Put.{Put}
use Rattle.text.specs.Laws.Decimal.{decimal-few}
use Rattle.text.specs.Laws.Put.{put-none, put-more, put_as, put_all}
use Rattle.receipt.specs.Receipt.{station_limit}
use Rattle.receipt.specs.Laws.Rules.{line-length}
use Rattle.bill.specs.Run.{stations_from, stations}
use Rattle.bill.specs.Bill.{Entry, entry_text, entries_text, bill_text}
use Rattle.bill.specs.Ledger.{ledger_entries, ledger_total, ledger_bill}
use Rattle.bill.specs.Steps.{ledger_entry}

-- the stations from one on
abbrev pub stations_left : ℕ → List ℕ
stations_left s = stations_from s (suc station_limit - s)

pub left-first : stations_left 1 ≡ stations
unfolding stations stations_from
left-first = refl

pub left-next : (s : ℕ) → s ≤ station_limit → stations_left s ≡ s ∷ stations_left (s + 1)
unfolding stations_from
left-next s h =
    let e : suc station_limit - s ≡ suc (station_limit - s) = omega arith in
    let f : suc station_limit - (s + 1) ≡ station_limit - s = omega arith in
    let g : s + 1 ≡ suc s = omega arith in
    rw (e, f, g)

pub left-none : (s : ℕ) → station_limit < s → stations_left s ≡ []
unfolding stations_from
left-none s h = let e : suc station_limit - s ≡ 0 = omega arith in rw e

-- the text of entries

-- the lines of the entries of the stations from one on
abbrev pub text_left : ℕ → List ℕ → List ℕ → List ℕ
text_left s a r = entries_text (ledger_entries (stations_left s) a r)

entries_next : (s : ℕ) (ss a r : List ℕ) → entries_text (ledger_entries (s ∷ ss) a r) ≡ ledger_entry s (slice_index a s) (slice_index r s) ++ entries_text (ledger_entries ss a r)
unfolding ledger_entries entries_text
entries_next s ss a r = go (slice_index a s == 0 && slice_index r s == 0)
  where
    one : Entry
    one = record { station = s; accepted = slice_index a s; refused = slice_index r s }

    go : (t : Bool) → entries_text (cond t (ledger_entries ss a r) (one ∷ ledger_entries ss a r)) ≡ cond t [] (entry_text one) ++ entries_text (ledger_entries ss a r)
    go true = refl
    go false = refl

pub text-next : (s : ℕ) (a r : List ℕ) → s ≤ station_limit → text_left s a r ≡ ledger_entry s (slice_index a s) (slice_index r s) ++ text_left (s + 1) a r
text-next s a r h = ap (λ (ss : List ℕ). entries_text (ledger_entries ss a r)) (left-next s h) ∙ entries_next s (stations_left (s + 1)) a r

pub text-none : (s : ℕ) (a r : List ℕ) → station_limit < s → text_left s a r ≡ []
unfolding ledger_entries entries_text
text-none s a r h = ap (λ (ss : List ℕ). entries_text (ledger_entries ss a r)) (left-none s h)

pub text-first : (a r : List ℕ) → text_left 1 a r ≡ entries_text (ledger_entries stations a r)
text-first a r = ap (λ (ss : List ℕ). entries_text (ledger_entries ss a r)) left-first

-- how long an entry is

pub entry_length : (s a r : ℕ) → length (entry_text (record { station = s; accepted = a; refused = r })) ≡ 28 + length (decimal s) + length (decimal a) + length (decimal r)
unfolding entry_text
entry_length s a r =
    let x = line-length "station" s in
    let y = line-length "accepted" a in
    let z = line-length "refused" r in
    simp length-append (omega arith)

pub entry-few : (s a r : ℕ) → length (ledger_entry s a r) ≤ 58
entry-few s a r = go (a == 0 && r == 0)
  where
    go : (t : Bool) → length (cond t [] (entry_text (record { station = s; accepted = a; refused = r }))) ≤ 58
    go true = omega arith
    go false = omega (arith, entry_length s a r, decimal-few s, decimal-few a, decimal-few r)

-- entries put one after another
pub record Putting (old : List ℕ) (s : ℕ) (a r new : List ℕ) (next : ℕ) : Type 0 where
  pub done : List ℕ
  pub put : Put old 0 done new next
  pub whole : done ++ text_left s a r ≡ entries_text (ledger_entries stations a r)

pub putting-none : (old a r : List ℕ) → Putting old 1 a r old 0
putting-none old a r = record { done = []; put = put-none old 0; whole = text-first a r }

pub putting-one : {old a r new last : List ℕ} {s next end : ℕ} → s ≤ station_limit → Putting old s a r new next
    → Put new next (ledger_entry s (slice_index a s) (slice_index r s)) last end → Putting old (s + 1) a r last end
putting-one {old} {a} {r} {new} {last} {s} {next} {end} h p q = record {
  done = p.done ++ ledger_entry s (slice_index a s) (slice_index r s);
  put = put-more p.put q;
  whole = append_assoc p.done (ledger_entry s (slice_index a s) (slice_index r s)) (text_left (s + 1) a r) ∙ ap (λ (l : List ℕ). p.done ++ l) (sym (text-next s a r h)) ∙ p.whole;
}

pub putting-all : {old a r new : List ℕ} {s next : ℕ} → station_limit < s → Putting old s a r new next → Put old 0 (entries_text (ledger_entries stations a r)) new next
putting-all {old} {a} {r} {new} {s} {next} h p =
    put_as p.put (sym p.whole ∙ ap (λ (l : List ℕ). p.done ++ l) (text-none s a r h) ∙ append-nil p.done)

-- the total

pub total-next : (s : ℕ) (a : List ℕ) (total sum : ℕ) → s ≤ station_limit → sum ≡ (total + slice_index a s) % 4294967296
    → (sum + ledger_total (stations_left (s + 1)) a) % 4294967296 ≡ (total + ledger_total (stations_left s) a) % 4294967296
unfolding ledger_total
total-next s a total sum h e =
    let f : ledger_total (stations_left s) a ≡ slice_index a s + ledger_total (stations_left (s + 1)) a = ap (λ (ss : List ℕ). ledger_total ss a) (left-next s h) in
    let g : total + slice_index a s + ledger_total (stations_left (s + 1)) a ≡ total + ledger_total (stations_left s) a = omega arith in
    ap (λ (n : ℕ). (n + ledger_total (stations_left (s + 1)) a) % 4294967296) e
    ∙ mod-add-mod (total + slice_index a s) 4294967296 (ledger_total (stations_left (s + 1)) a)
    ∙ ap (λ (n : ℕ). n % 4294967296) g

pub total-none : (s : ℕ) (a : List ℕ) → station_limit < s → ledger_total (stations_left s) a ≡ 0
unfolding ledger_total
total-none s a h = ap (λ (ss : List ℕ). ledger_total ss a) (left-none s h)

pub total_first : (a : List ℕ) → ledger_total (stations_left 1) a ≡ ledger_total stations a
total_first a = ap (λ (ss : List ℕ). ledger_total ss a) left-first

-- the bill

pub bill-length : (a r : List ℕ) → length (bill_text (ledger_bill a r)) ≡ length (entries_text (ledger_entries stations a r)) + 7 + length (decimal (ledger_total stations a % 4294967296))
unfolding bill_text
bill-length a r = simp length-append (omega (arith, line-length "total" (ledger_total stations a % 4294967296)))

-- the entries of a ledger's bill have few bytes
entries-most : (ss a r : List ℕ) → length (entries_text (ledger_entries ss a r)) ≤ 58 * length ss
unfolding entries_text ledger_entries
entries-most [] a r = omega arith
entries-most (s ∷ ss) a r =
    omega (arith, entries-most ss a r, entry-few s (slice_index a s) (slice_index r s), ap length (entries_next s ss a r), length-append (ledger_entry s (slice_index a s) (slice_index r s)) (entries_text (ledger_entries ss a r)))

stations-length : (k s : ℕ) → length (stations_from s k) ≡ k
unfolding stations_from
stations-length zero s = refl
stations-length (suc k) s = ap suc (stations-length k (suc s))

pub entries-few : (a r : List ℕ) → length (entries_text (ledger_entries stations a r)) ≤ 58 * station_limit
unfolding stations
entries-few a r = omega (arith, entries-most stations a r, stations-length station_limit 1)

-- what writing a ledger's bill says and leaves
module _ (a r buffer : List ℕ) (size : ℕ) (e : size ≡ length (bill_text (ledger_bill a r))) where
  pub write-short : length buffer < size → (Err buffer_too_small ≡ answered (length (bill_text (ledger_bill a r))) (length buffer)) × (buffer ≡ leaves (bill_text (ledger_bill a r)) buffer)
  write-short h =
      let t : nat_le (length (bill_text (ledger_bill a r))) (length buffer) ≡ false = lt-leb (length (bill_text (ledger_bill a r))) (length buffer) (omega arith) in
      (rw t, rw t)

  pub write-all : {new : List ℕ} {end : ℕ} → size ≤ length buffer → Put buffer 0 (bill_text (ledger_bill a r)) new end
      → (Ok size ≡ answered (length (bill_text (ledger_bill a r))) (length buffer)) × (new ≡ leaves (bill_text (ledger_bill a r)) buffer)
  write-all {new} {end} h p =
      let t : nat_le (length (bill_text (ledger_bill a r))) (length buffer) ≡ true = le-leb (length (bill_text (ledger_bill a r))) (length buffer) (omega arith) in
      (rw t (ap Ok e), rw t (put_all p (omega arith)).1)

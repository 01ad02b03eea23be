-- The columns of the ledger count accepted and refused jobs, so that the bill of the ledger is the bill of the receipts. Assumes nothing.
use Rattle.std.specs.Prelude.{◌≡◌, ℕ, zero, suc, ◌+◌, ◌%◌, ◌<◌, ◌≤◌, Bool, true, false, cond, not, ◌&&◌, List, [], ◌∷◌, length, ◌==◌, nat_lt, slice_index, slice_index_or}
use Rattle.std.proofs.Math.Path.{refl, ap, ap₂}
use Rattle.std.proofs.Common.{sym, ◌∙◌, arith, mod-eq_of_lt, length-set, get_or-set_same, get_or-set_other, eqb-true, ne_eqb, lt-ltb}
use Rattle.std.proofs.lemmas.List.{length-replicate, get_or-replicate}
use Rattle.std.proofs.lemmas.Bool.{eqb-false}
use Rattle.receipt.specs.declared.Receipt.{Receipt}
use Rattle.receipt.specs.Receipt.{station_limit}
use Rattle.bill.specs.Run.{all_kept, stations_from, stations}
use Rattle.bill.specs.Bill.{Entry, counted, is_of, is_accepted, accepted_of, refused_of, all_accepted, entries_in, bill_of}
use Rattle.bill.specs.declared.Ledger.{Ledger}
use Rattle.bill.specs.Ledger.{blank, raised, posted, posted_all, ledger_entries, ledger_total, ledger_bill}
use Rattle.bill.specs.Laws.Sums.{sum_of, counted-more, receipts-apart, total-accepted}
use Rattle.bill.specs.Laws.Longest.{counted-most}

-- One column

-- a column after receipts, raised for those that pass a test
unfoldable pub column_after : (Receipt → Bool) → List ℕ → List Receipt → List ℕ
column_after test column [] = column
column_after test column (r ∷ rs) = column_after test (cond (test r) (raised column r.station) column) rs

accepted-after : (rs : List Receipt) (l : Ledger) → (posted_all l rs).accepted ≡ column_after is_accepted l.accepted rs
unfolding posted_all column_after
accepted-after [] l = refl
accepted-after (r ∷ rs) l = accepted-after rs (posted l r)

refused-after : (rs : List Receipt) (l : Ledger) → (posted_all l rs).refused ≡ column_after (λ (r : Receipt). not (is_accepted r)) l.refused rs
unfolding posted_all column_after
refused-after [] l = refl
refused-after (r ∷ rs) l = refused-after rs (posted l r) ∙ ap (λ (c : List ℕ). column_after (λ (r : Receipt). not (is_accepted r)) c rs) (turned (is_accepted r))
  where
    turned : (t : Bool) → cond t l.refused (raised l.refused r.station) ≡ cond (not t) (raised l.refused r.station) l.refused
    turned true = refl
    turned false = refl

-- one receipt
raised_at : (t : Bool) (column : List ℕ) (r : Receipt) (s : ℕ) → s < length column → slice_index column s + 1 < 4294967296
    → slice_index (cond t (raised column r.station) column) s ≡ slice_index column s + cond (r.station == s && t) 1 0
raised_at true column r s h b = go (r.station == s) refl
  where
    go : (e : Bool) → (r.station == s) ≡ e → slice_index (raised column r.station) s ≡ slice_index column s + cond (e && true) 1 0
    go true e =
        let own = eqb-true r.station s e in
        ap (λ (i : ℕ). slice_index (raised column i) s) own ∙ get_or-set_same column s ((slice_index column s + 1) % 4294967296) 0 h ∙ mod-eq_of_lt b
    go false e =
        let none : slice_index_or column s 0 + 0 ≡ slice_index_or column s 0 = omega arith in
        get_or-set_other column r.station s ((slice_index column r.station + 1) % 4294967296) 0 (λ q. eqb-false r.station s e (sym q)) ∙ sym none
raised_at false column r s h b = go (r.station == s)
  where
    go : (e : Bool) → slice_index column s ≡ slice_index column s + cond (e && false) 1 0
    go true = omega arith
    go false = omega arith

kept-length : (t : Bool) (column : List ℕ) (s : ℕ) → length (cond t (raised column s) column) ≡ length column
kept-length true column s = length-set column s _
kept-length false column s = refl

pub column-counts : (test : Receipt → Bool) (rs : List Receipt) (column : List ℕ) (s : ℕ) → s < length column → slice_index column s + length rs < 4294967296
    → slice_index (column_after test column rs) s ≡ slice_index column s + counted (λ (r : Receipt). is_of s r && test r) rs
unfolding column_after counted
column-counts test [] column s h b = omega arith
column-counts test (r ∷ rs) column s h b =
    let one = raised_at (test r) column r s h (omega arith) in
    let few : cond (r.station == s && test r) 1 0 ≤ 1 = most (r.station == s && test r) in
    let l : s < length (cond (test r) (raised column r.station) column) = omega (arith, kept-length (test r) column r.station) in
    let more = column-counts test rs (cond (test r) (raised column r.station) column) s l (omega arith) in
    let next = counted-more (λ (x : Receipt). is_of s x && test x) r rs in
    omega (arith, more, next)
  where
    most : (t : Bool) → cond t 1 0 ≤ 1
    most true = omega arith
    most false = omega arith

-- Both columns

module _ (rs : List Receipt) (few : length rs < 4294967296) where
  pub column-accepted : (s : ℕ) → s ≤ station_limit → slice_index (posted_all blank rs).accepted s ≡ accepted_of s rs
  column-accepted s h =
      let zero-there : slice_index_or blank.accepted s 0 ≡ 0 = get_or-replicate (suc station_limit) s 0 0 (omega arith) in
      let inside : s < length blank.accepted = omega (arith, length-replicate {A = ℕ} (suc station_limit) 0) in
      let counts = column-counts is_accepted rs blank.accepted s inside (omega arith) in
      ap (λ (c : List ℕ). slice_index c s) (accepted-after rs blank) ∙ counts ∙ omega arith

  pub column-refused : (s : ℕ) → s ≤ station_limit → slice_index (posted_all blank rs).refused s ≡ refused_of s rs
  column-refused s h =
      let zero-there : slice_index_or blank.refused s 0 ≡ 0 = get_or-replicate (suc station_limit) s 0 0 (omega arith) in
      let inside : s < length blank.refused = omega (arith, length-replicate {A = ℕ} (suc station_limit) 0) in
      let counts = column-counts (λ (r : Receipt). not (is_accepted r)) rs blank.refused s inside (omega arith) in
      ap (λ (c : List ℕ). slice_index c s) (refused-after rs blank) ∙ counts ∙ omega arith

-- The bill

-- a station has no jobs exactly when it does not occur
occurs-test : {X : Type 0} (a b : ℕ) (x y : X) → cond (a == 0 && b == 0) x y ≡ cond (nat_lt 0 (a + b)) y x
occurs-test {X} zero zero x y = refl
occurs-test {X} zero (suc b) x y = rw (ne_eqb (suc b) 0 (λ e. omega arith), lt-ltb 0 (0 + suc b) (omega arith))
occurs-test {X} (suc a) b x y = rw (ne_eqb (suc a) 0 (λ e. omega arith), lt-ltb 0 (suc a + b) (omega arith))

module _ (rs : List Receipt) (a r : List ℕ) where
  entries-same : (f k : ℕ) → ((s : ℕ) → f ≤ s → s < f + k → slice_index a s ≡ accepted_of s rs) → ((s : ℕ) → f ≤ s → s < f + k → slice_index r s ≡ refused_of s rs)
      → ledger_entries (stations_from f k) a r ≡ entries_in (stations_from f k) rs
  unfolding ledger_entries entries_in stations_from
  entries-same f zero p q = refl
  entries-same f (suc k) p q =
      let x : slice_index_or a f 0 ≡ accepted_of f rs = p f (omega arith) (omega arith) in
      let y : slice_index_or r f 0 ≡ refused_of f rs = q f (omega arith) (omega arith) in
      let rest = entries-same (suc f) k (λ s i j. p s (omega arith) (omega arith)) (λ s i j. q s (omega arith) (omega arith)) in
      rw (x, y, rest) (occurs-test (accepted_of f rs) (refused_of f rs) (entries_in (stations_from (suc f) k) rs) (record { station = f; accepted = accepted_of f rs; refused = refused_of f rs } ∷ entries_in (stations_from (suc f) k) rs)
      ∙ ap (λ (n : ℕ). cond (nat_lt 0 n) (record { station = f; accepted = accepted_of f rs; refused = refused_of f rs } ∷ entries_in (stations_from (suc f) k) rs) (entries_in (stations_from (suc f) k) rs)) (sym (receipts-apart f rs)))

  total-same : (f k : ℕ) → ((s : ℕ) → f ≤ s → s < f + k → slice_index a s ≡ accepted_of s rs) → ledger_total (stations_from f k) a ≡ sum_of (λ (s : ℕ). accepted_of s rs) (stations_from f k)
  unfolding ledger_total sum_of stations_from
  total-same f zero p = refl
  total-same f (suc k) p = ap₂ (λ (m n : ℕ). m + n) (p f (omega arith) (omega arith)) (total-same (suc f) k (λ s i j. p s (omega arith) (omega arith)))

pub ledger-bill : (rs : List Receipt) → all_kept rs ≡ true → length rs < 4294967296 → ledger_bill (posted_all blank rs).accepted (posted_all blank rs).refused ≡ bill_of rs
unfolding stations
ledger-bill rs k few =
    let a : List ℕ = (posted_all blank rs).accepted in
    let b : List ℕ = (posted_all blank rs).refused in
    let entries = entries-same rs (posted_all blank rs).accepted (posted_all blank rs).refused 1 station_limit (λ s i j. column-accepted rs few s (omega arith)) (λ s i j. column-refused rs few s (omega arith)) in
    let sum : ledger_total stations (posted_all blank rs).accepted ≡ all_accepted rs = total-same rs (posted_all blank rs).accepted (posted_all blank rs).refused 1 station_limit (λ s i j. column-accepted rs few s (omega arith)) ∙ total-accepted rs k in
    let small : all_accepted rs < 4294967296 = omega (arith, counted-most is_accepted rs) in
    ap₂ (λ (es : List Entry) (n : ℕ). record { entries = es; total = n }) entries (ap (λ (n : ℕ). n % 4294967296) sum ∙ mod-eq_of_lt small)

-- Jobs rise within each station exactly when each is above the last one that the ledger has of its station. Assumes nothing.
use Rattle.std.specs.Prelude.{◌≡◌, ℕ, zero, suc, ◌+◌, ◌<◌, ◌≤◌, Bool, true, false, cond, ◌&&◌, List, [], ◌∷◌, length, replicate, ◌==◌, ◌≢◌, nat_eq, nat_lt, slice_index, slice_set, refl}
use Rattle.std.proofs.Common.{sym, ap, ◌∙◌, arith, length-set, get_or-set_same, get_or-set_other, eqb-true, eq-eqb, lt-ltb}
use Rattle.std.proofs.lemmas.List.{length-replicate, get_or-replicate}
use Rattle.std.proofs.lemmas.Bool.{eqb-false}
use Rattle.numbers.specs.Laws.Tests.{and_left, and_right, and_both}
use Rattle.receipt.specs.declared.Receipt.{Receipt}
use Rattle.receipt.specs.Receipt.{station_limit}
use Rattle.bill.specs.Run.{all_kept, stations_from, stations, jobs_of, above, increasing, rising_in, rising}
use Rattle.bill.specs.declared.Ledger.{Ledger}
use Rattle.bill.specs.Ledger.{blank, posted, rises, all_rise}
use Rattle.bill.specs.Steps.{ledger}
use Rattle.bill.specs.Laws.Run.{kept-first, kept-rest}
use Rattle.bill.specs.Laws.Sums.{kept-station, kept-job}

-- two tests that hold alike are the same
same_test : (a b : Bool) → (a ≡ true → b ≡ true) → (b ≡ true → a ≡ true) → a ≡ b
same_test true b f g = sym (f refl)
same_test false true f g = g refl
same_test false false f g = refl

-- Each station by itself

-- the jobs of every station are above the last one that the ledger has
Apart : Ledger → List Receipt → Type 0
Apart l rs = (s : ℕ) → 1 ≤ s → s ≤ station_limit → above (slice_index l.jobs s) (jobs_of s rs) ≡ true

-- one receipt more in front, for its own station and for any other
module _ (l : Ledger) (r : Receipt) (rs : List Receipt) (s : ℕ) where
  above-own : r.station ≡ s → above (slice_index l.jobs s) (jobs_of s (r ∷ rs)) ≡ nat_lt (slice_index l.jobs r.station) r.job && above r.job (jobs_of s rs)
  unfolding jobs_of above
  above-own e = rw (eq-eqb r.station s e, e)

  above_other : nat_eq r.station s ≡ false → above (slice_index l.jobs s) (jobs_of s (r ∷ rs)) ≡ above (slice_index l.jobs s) (jobs_of s rs)
  unfolding jobs_of
  above_other e = rw e

  last-own : r.station ≡ s → s < length l.jobs → slice_index (posted l r).jobs s ≡ r.job
  last-own e h = ap (λ (i : ℕ). slice_index (slice_set l.jobs i r.job) s) e ∙ get_or-set_same l.jobs s r.job 0 h

  last-other : nat_eq r.station s ≡ false → slice_index (posted l r).jobs s ≡ slice_index l.jobs s
  last-other e = get_or-set_other l.jobs r.station s r.job 0 (λ q. eqb-false r.station s e (sym q))

rise-apart : (rs : List Receipt) (l : Ledger) → length l.jobs ≡ suc station_limit → all_rise l rs ≡ true → Apart l rs
unfolding Apart all_rise jobs_of above
rise-apart [] l n h s p q = refl
rise-apart (r ∷ rs) l n h s p q =
    go (r.station == s) refl (rise-apart rs (posted l r) (length-set l.jobs r.station r.job ∙ n) (and_right (rises l r) (all_rise (posted l r) rs) h) s p q)
  where
    go : (t : Bool) → (r.station == s) ≡ t → above (slice_index (posted l r).jobs s) (jobs_of s rs) ≡ true → above (slice_index l.jobs s) (jobs_of s (r ∷ rs)) ≡ true
    go true e i =
        let own = eqb-true r.station s e in
        above-own l r rs s own ∙ and_both (nat_lt (slice_index l.jobs r.station) r.job) (above r.job (jobs_of s rs)) (and_left (rises l r) (all_rise (posted l r) rs) h)
        (ap (λ (n : ℕ). above n (jobs_of s rs)) (sym (last-own l r rs s own (omega arith))) ∙ i)
    go false e i = above_other l r rs s e ∙ ap (λ (n : ℕ). above n (jobs_of s rs)) (sym (last-other l r rs s e)) ∙ i

apart-rise : (rs : List Receipt) (l : Ledger) → length l.jobs ≡ suc station_limit → all_kept rs ≡ true → Apart l rs → all_rise l rs ≡ true
unfolding Apart all_rise
apart-rise [] l n k h = refl
apart-rise (r ∷ rs) l n k h =
    let here = kept-station r (kept-first r rs k) in
    let first = sym (above-own l r rs r.station refl) ∙ h r.station here.0 here.1 in
    and_both (rises l r) (all_rise (posted l r) rs) (and_left (rises l r) (above r.job (jobs_of r.station rs)) first)
    (apart-rise rs (posted l r) (length-set l.jobs r.station r.job ∙ n) (kept-rest r rs k) rest)
  where
    rest : (s : ℕ) → 1 ≤ s → s ≤ station_limit → above (slice_index (posted l r).jobs s) (jobs_of s rs) ≡ true
    rest s p q = go (r.station == s) refl
      where
        go : (t : Bool) → (r.station == s) ≡ t → above (slice_index (posted l r).jobs s) (jobs_of s rs) ≡ true
        go true e =
            let own = eqb-true r.station s e in
            ap (λ (n : ℕ). above n (jobs_of s rs)) (last-own l r rs s own (omega arith))
            ∙ and_right (nat_lt (slice_index l.jobs r.station) r.job) (above r.job (jobs_of s rs)) (sym (above-own l r rs s own) ∙ h s p q)
        go false e = ap (λ (n : ℕ). above n (jobs_of s rs)) (last-other l r rs s e) ∙ sym (above_other l r rs s e) ∙ h s p q

-- a job is 1 at least, so that the first is above 0
pub increasing-above : (s : ℕ) (rs : List Receipt) → all_kept rs ≡ true → increasing (jobs_of s rs) ≡ above 0 (jobs_of s rs)
unfolding increasing above jobs_of
increasing-above s [] k = refl
increasing-above s (r ∷ rs) k = go (r.station == s) (increasing-above s rs (kept-rest r rs k))
  where
    go : (t : Bool) → increasing (jobs_of s rs) ≡ above 0 (jobs_of s rs) → increasing (cond t (r.job ∷ jobs_of s rs) (jobs_of s rs)) ≡ above 0 (cond t (r.job ∷ jobs_of s rs) (jobs_of s rs))
    go true i = rw (lt-ltb 0 r.job (kept-job r (kept-first r rs k)))
    go false i = i

-- All stations

above-first : (a b : ℕ) → a ≤ b → (a ≢ b) → suc a ≤ b
above-first a b l n = omega arith

rising-each : (f k : ℕ) (rs : List Receipt) → rising_in (stations_from f k) rs ≡ true → (s : ℕ) → f ≤ s → s < f + k → increasing (jobs_of s rs) ≡ true
unfolding rising_in stations_from
rising-each f zero rs h s p q = absurd (omega arith)
rising-each f (suc k) rs h s p q =
    go (f == s) refl (λ i. rising-each (suc f) k rs (and_right (increasing (jobs_of f rs)) (rising_in (stations_from (suc f) k) rs) h) s i (omega arith))
  where
    go : (t : Bool) → (f == s) ≡ t → (suc f ≤ s → increasing (jobs_of s rs) ≡ true) → increasing (jobs_of s rs) ≡ true
    go true e i = ap (λ (j : ℕ). increasing (jobs_of j rs)) (sym (eqb-true f s e)) ∙ and_left (increasing (jobs_of f rs)) (rising_in (stations_from (suc f) k) rs) h
    go false e i = i (above-first f s p (eqb-false f s e))

each-rising : (f k : ℕ) (rs : List Receipt) → ((s : ℕ) → f ≤ s → s < f + k → increasing (jobs_of s rs) ≡ true) → rising_in (stations_from f k) rs ≡ true
unfolding rising_in stations_from
each-rising f zero rs h = refl
each-rising f (suc k) rs h =
    and_both (increasing (jobs_of f rs)) (rising_in (stations_from (suc f) k) rs) (h f (omega arith) (omega arith)) (each-rising (suc f) k rs (λ s p q. h s (omega arith) (omega arith)))

-- a ledger with nothing in it

blank-last : (s : ℕ) → s ≤ station_limit → slice_index blank.jobs s ≡ 0
blank-last s h = get_or-replicate (suc station_limit) s 0 0 (omega arith)

pub rising-rise : (rs : List Receipt) → all_kept rs ≡ true → rising rs ≡ all_rise blank rs
unfolding Apart stations
rising-rise rs k = same_test (rising rs) (all_rise blank rs) there back
  where
    there : rising rs ≡ true → all_rise blank rs ≡ true
    there h = apart-rise rs blank (length-replicate {A = ℕ} (suc station_limit) 0) k (λ s p q.
        ap (λ (n : ℕ). above n (jobs_of s rs)) (blank-last s q) ∙ sym (increasing-above s rs k) ∙ rising-each 1 station_limit rs h s p (omega arith))

    back : all_rise blank rs ≡ true → rising rs ≡ true
    back h = each-rising 1 station_limit rs (λ s p q.
        increasing-above s rs k ∙ ap (λ (n : ℕ). above n (jobs_of s rs)) (sym (blank-last s (omega arith))) ∙ rise-apart rs blank (length-replicate {A = ℕ} (suc station_limit) 0) h s p (omega arith))

-- three columns of zeros
pub blank-columns : {a b c : List ℕ} → a ≡ replicate (suc station_limit) 0 → b ≡ replicate (suc station_limit) 0 → c ≡ replicate (suc station_limit) 0 → ledger a b c ≡ blank
blank-columns {a} {b} {c} p q r = rw (p, q, r)

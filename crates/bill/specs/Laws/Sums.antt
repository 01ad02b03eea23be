-- Laws of the bill's sums: every receipt is counted for exactly one station, as accepted or as refused, so that the entries add up to the total and
-- to all receipts, and the entries' stations rise. Assumes nothing.
use Rattle.std.specs.Prelude.{◌≡◌, ℕ, zero, suc, ◌+◌, ◌<◌, ◌≤◌, Bool, true, false, cond, not, ◌&&◌, List, [], ◌∷◌, length, ◌==◌, nat_le, nat_lt, refl}
use Rattle.std.proofs.Common.{sym, ap, ap₂, ◌∙◌, arith, eqb-true, leb-true, ltb-false, lt-ltb, ne_eqb}
use mathlib.Core.List.Memᴰ
use mathlib.Core.List.{Memᴰ}
use Rattle.std.proofs.lemmas.Bool.{eqb-false}
use Rattle.numbers.specs.Laws.Tests.{clash, and_left, and_right, and_both}
use Rattle.numbers.specs.Ranges.{within}
use Rattle.receipt.specs.declared.Receipt.{Receipt}
use Rattle.receipt.specs.Receipt.{station_limit, job_limit, verdict_limit, numbered, accepted_right, refused_right, rules_kept}
use Rattle.bill.specs.Run.{all_kept, stations_from, stations, above, increasing}
use Rattle.bill.specs.Bill.{Entry, counted, is_of, is_accepted, receipts_of, accepted_of, refused_of, all_accepted, entries_in, bill_of}
use Rattle.bill.specs.Sums.{entries_accepted, entries_refused, stations_in}
use Rattle.bill.specs.Laws.Run.{kept-first, kept-rest}

-- What the rules say of a receipt

-- its station and its job are in range: the station from 1 to the limit, the job from 1 on
module _ (r : Receipt) (h : rules_kept r ≡ true) where
  in-range : numbered r.station r.job ≡ true
  unfolding rules_kept
  in-range = and_left (numbered r.station r.job) _ h

  pub kept-station : (1 ≤ r.station) × (r.station ≤ station_limit)
  kept-station =
      let station = and_left (within 1 station_limit r.station) (within 1 job_limit r.job) in-range in
      (leb-true 1 r.station (and_left (nat_le 1 r.station) _ station), leb-true r.station station_limit (and_right (nat_le 1 r.station) _ station))

  pub kept-job : 1 ≤ r.job
  kept-job = leb-true 1 r.job (and_left (nat_le 1 r.job) _ (and_right (within 1 station_limit r.station) _ in-range))

-- a test beside one that fails
and_none : (a : Bool) → a && false ≡ false
and_none true = refl
and_none false = refl

-- its units are 1 where it is accepted and 0 where it is not
accepted-units : (r : Receipt) → accepted_right r ≡ true → r.units ≡ 1
accepted-units r h = go (r.units == 1) refl
  where
    go : (t : Bool) → (r.units == 1) ≡ t → r.units ≡ 1
    go true e = eqb-true r.units 1 e
    go false e = clash (simp (e, and_none) at h)

refused-units : (r : Receipt) → refused_right r ≡ true → r.units ≡ 0
refused-units r h = go (r.units == 0) refl
  where
    go : (t : Bool) → (r.units == 0) ≡ t → r.units ≡ 0
    go true e = eqb-true r.units 0 e
    go false e = clash (simp (e, and_none) at h)

units-right : (r : Receipt) (t : Bool) → cond t (accepted_right r) (refused_right r) ≡ true → r.units ≡ cond t 1 0
units-right r true h = accepted-units r h
units-right r false h = refused-units r h

pub kept-units : (r : Receipt) → rules_kept r ≡ true → r.units ≡ cond (is_accepted r) 1 0
unfolding rules_kept
kept-units r h = units-right r (is_accepted r) (and_right (nat_le r.verdict verdict_limit) _ (and_right (numbered r.station r.job) _ h))

-- Receipts that are counted

-- one receipt more
pub counted-more : (test : Receipt → Bool) (r : Receipt) (rs : List Receipt) → counted test (r ∷ rs) ≡ cond (test r) 1 0 + counted test rs
unfolding counted
counted-more test r rs = go (test r)
  where
    go : (t : Bool) → cond t (suc (counted test rs)) (counted test rs) ≡ cond t 1 0 + counted test rs
    go true = omega arith
    go false = omega arith

-- two tests that agree count the same
counted_same : (test other : Receipt → Bool) → ((r : Receipt) → test r ≡ other r) → (rs : List Receipt) → counted test rs ≡ counted other rs
unfolding counted
counted_same test other h [] = refl
counted_same test other h (r ∷ rs) = rw (h r, counted_same test other h rs)

-- those that pass a test are those that pass another too and those that do not
counted-apart : (test good : Receipt → Bool) (rs : List Receipt) → counted test rs ≡ counted (λ (r : Receipt). test r && good r) rs + counted (λ (r : Receipt). test r && not (good r)) rs
unfolding counted
counted-apart test good [] = refl
counted-apart test good (r ∷ rs) = go (test r) (good r) _ _ _ (counted-apart test good rs)
  where
    go : (a b : Bool) (n x y : ℕ) → n ≡ x + y → cond a (suc n) n ≡ cond (a && b) (suc x) x + cond (a && not b) (suc y) y
    go true true n x y e = omega arith
    go true false n x y e = omega arith
    go false b n x y e = e

-- the test that every receipt passes counts them all
counted-all : (rs : List Receipt) → counted (λ (r : Receipt). true) rs ≡ length rs
unfolding counted
counted-all [] = refl
counted-all (r ∷ rs) = ap suc (counted-all rs)

-- a station's receipts are its accepted and its refused ones
pub receipts-apart : (s : ℕ) (rs : List Receipt) → receipts_of s rs ≡ accepted_of s rs + refused_of s rs
receipts-apart s rs = counted-apart (is_of s) is_accepted rs

-- all receipts are the accepted and the refused ones
pub all_apart : (rs : List Receipt) → length rs ≡ all_accepted rs + counted (λ (r : Receipt). not (is_accepted r)) rs
all_apart rs = sym (counted-all rs) ∙ counted-apart (λ (r : Receipt). true) is_accepted rs

-- Sums over stations

-- the sum of a function over some stations
unfoldable pub sum_of : (ℕ → ℕ) → List ℕ → ℕ
sum_of f [] = 0
sum_of f (s ∷ ss) = f s + sum_of f ss

-- functions that agree have the same sum
pub sum_same : (f g : ℕ → ℕ) → ((s : ℕ) → f s ≡ g s) → (ss : List ℕ) → sum_of f ss ≡ sum_of g ss
unfolding sum_of
sum_same f g h [] = refl
sum_same f g h (s ∷ ss) = ap₂ ◌+◌ (h s) (sum_same f g h ss)

-- a sum of sums
pub sum_both : (f g : ℕ → ℕ) (ss : List ℕ) → sum_of (λ (s : ℕ). f s + g s) ss ≡ sum_of f ss + sum_of g ss
unfolding sum_of
sum_both f g [] = refl
sum_both f g (s ∷ ss) = omega (arith, sum_both f g ss)

-- nothing adds up to nothing
sum-nothing : (ss : List ℕ) → sum_of (λ (s : ℕ). 0) ss ≡ 0
unfolding sum_of
sum-nothing [] = refl
sum-nothing (s ∷ ss) = omega (arith, sum-nothing ss)

-- a number below all the stations is none of them, and one among them is one of them, once
met-never : (n : ℕ) (t : Bool) (first k : ℕ) → n < first → sum_of (λ (s : ℕ). cond (n == s && t) 1 0) (stations_from first k) ≡ 0
unfolding sum_of stations_from
met-never n t first zero h = refl
met-never n t first (suc k) h = rw (ne_eqb n first (λ e. omega arith), met-never n t (suc first) k (omega arith))

met-once : (n : ℕ) (t : Bool) (first k : ℕ) → first ≤ n → n < first + k → sum_of (λ (s : ℕ). cond (n == s && t) 1 0) (stations_from first k) ≡ cond t 1 0
unfolding sum_of stations_from
met-once n t first zero l h = absurd (omega arith)
met-once n t first (suc k) l h = go (n == first) refl (met-never n t (suc first) k) (met-once n t (suc first) k)
  where
    go : (b : Bool) → (n == first) ≡ b → (n < suc first → sum_of (λ (s : ℕ). cond (n == s && t) 1 0) (stations_from (suc first) k) ≡ 0)
        → (suc first ≤ n → n < suc first + k → sum_of (λ (s : ℕ). cond (n == s && t) 1 0) (stations_from (suc first) k) ≡ cond t 1 0)
        → cond (b && t) 1 0 + sum_of (λ (s : ℕ). cond (n == s && t) 1 0) (stations_from (suc first) k) ≡ cond t 1 0
    go true e never once = let q = eqb-true n first e in rw (never (omega arith)) (omega arith)
    go false e never once = let q : n ≡ first → ⊥ = eqb-false n first e in rw (once (omega arith) (omega arith)) (omega arith)

-- each receipt that keeps the rules is of exactly one station
pub sum-counted : (test : Receipt → Bool) (rs : List Receipt) → all_kept rs ≡ true → sum_of (λ (s : ℕ). counted (λ (r : Receipt). is_of s r && test r) rs) stations ≡ counted test rs
unfolding counted stations
sum-counted test [] h = sum-nothing stations
sum-counted test (r ∷ rs) h =
    let k = kept-station r (kept-first r rs h) in
    let once : sum_of (λ (s : ℕ). cond (is_of s r && test r) 1 0) stations ≡ cond (test r) 1 0 = met-once r.station (test r) 1 station_limit k.0 (omega arith) in
    let more = sum-counted test rs (kept-rest r rs h) in
    sum_same _ _ (λ (s : ℕ). counted-more (λ (t : Receipt). is_of s t && test t) r rs) stations
    ∙ sum_both (λ (s : ℕ). cond (is_of s r && test r) 1 0) (λ (s : ℕ). counted (λ (t : Receipt). is_of s t && test t) rs) stations
    ∙ ap₂ ◌+◌ once more
    ∙ sym (counted-more test r rs)

-- the accepted jobs of all stations are all accepted jobs
pub total-accepted : (rs : List Receipt) → all_kept rs ≡ true → sum_of (λ (s : ℕ). accepted_of s rs) stations ≡ all_accepted rs
total-accepted rs h = sum-counted is_accepted rs h

-- the receipts of all stations are all receipts
pub total-receipts : (rs : List Receipt) → all_kept rs ≡ true → sum_of (λ (s : ℕ). receipts_of s rs) stations ≡ length rs
total-receipts rs h =
    sum_same _ _ (λ (s : ℕ). counted_same (is_of s) (λ (r : Receipt). is_of s r && true) (λ (r : Receipt). and-true (is_of s r)) rs) stations
    ∙ sum-counted (λ (r : Receipt). true) rs h
    ∙ counted-all rs
  where
    and-true : (a : Bool) → a ≡ a && true
    and-true true = refl
    and-true false = refl

-- The entries of a bill

-- a station that does not occur has no jobs
no-jobs : (s : ℕ) (rs : List Receipt) → nat_lt 0 (receipts_of s rs) ≡ false → (accepted_of s rs ≡ 0) × (refused_of s rs ≡ 0)
no-jobs s rs e =
    let a = receipts-apart s rs in
    let z = ltb-false 0 (receipts_of s rs) e in
    (omega arith, omega arith)

-- entries of some stations add up to the jobs of these
in-accepted : (ss : List ℕ) (rs : List Receipt) → entries_accepted (entries_in ss rs) ≡ sum_of (λ (s : ℕ). accepted_of s rs) ss
unfolding entries_accepted entries_in sum_of
in-accepted [] rs = refl
in-accepted (s ∷ ss) rs = go (nat_lt 0 (receipts_of s rs)) refl (in-accepted ss rs)
  where
    go : (t : Bool) → nat_lt 0 (receipts_of s rs) ≡ t → entries_accepted (entries_in ss rs) ≡ sum_of (λ (s : ℕ). accepted_of s rs) ss
        → entries_accepted (cond t (record { station = s; accepted = accepted_of s rs; refused = refused_of s rs } ∷ entries_in ss rs) (entries_in ss rs)) ≡ accepted_of s rs + sum_of (λ (s : ℕ). accepted_of s rs) ss
    go true e h = omega arith
    go false e h = let z = no-jobs s rs e in omega arith

in-refused : (ss : List ℕ) (rs : List Receipt) → entries_refused (entries_in ss rs) ≡ sum_of (λ (s : ℕ). refused_of s rs) ss
unfolding entries_refused entries_in sum_of
in-refused [] rs = refl
in-refused (s ∷ ss) rs = go (nat_lt 0 (receipts_of s rs)) refl (in-refused ss rs)
  where
    go : (t : Bool) → nat_lt 0 (receipts_of s rs) ≡ t → entries_refused (entries_in ss rs) ≡ sum_of (λ (s : ℕ). refused_of s rs) ss
        → entries_refused (cond t (record { station = s; accepted = accepted_of s rs; refused = refused_of s rs } ∷ entries_in ss rs) (entries_in ss rs)) ≡ refused_of s rs + sum_of (λ (s : ℕ). refused_of s rs) ss
    go true e h = omega arith
    go false e h = let z = no-jobs s rs e in omega arith

-- the total is the sum of the entries' accepted jobs
pub entries-accepted : (rs : List Receipt) → all_kept rs ≡ true → entries_accepted (bill_of rs).entries ≡ (bill_of rs).total
entries-accepted rs h = in-accepted stations rs ∙ total-accepted rs h

-- all jobs of the entries are as many as the receipts
pub entries-receipts : (rs : List Receipt) → all_kept rs ≡ true → entries_accepted (bill_of rs).entries + entries_refused (bill_of rs).entries ≡ length rs
entries-receipts rs h =
    ap₂ ◌+◌ (in-accepted stations rs) (in-refused stations rs)
    ∙ sym (sum_both (λ (s : ℕ). accepted_of s rs) (λ (s : ℕ). refused_of s rs) stations)
    ∙ sum_same _ _ (λ (s : ℕ). sym (receipts-apart s rs)) stations
    ∙ total-receipts rs h

-- the stations of entries of some stations, rising from one on, rise above those before them
from-above : (n first k : ℕ) (rs : List Receipt) → n < first → above n (stations_in (entries_in (stations_from first k) rs)) ≡ true
unfolding above stations_in entries_in stations_from
from-above n first zero rs h = refl
from-above n first (suc k) rs h = go (nat_lt 0 (receipts_of first rs)) (from-above first (suc first) k rs (omega arith)) (from-above n (suc first) k rs (omega arith))
  where
    go : (t : Bool) → above first (stations_in (entries_in (stations_from (suc first) k) rs)) ≡ true → above n (stations_in (entries_in (stations_from (suc first) k) rs)) ≡ true
        → above n (stations_in (cond t (record { station = first; accepted = accepted_of first rs; refused = refused_of first rs } ∷ entries_in (stations_from (suc first) k) rs) (entries_in (stations_from (suc first) k) rs))) ≡ true
    go true f g = and_both (nat_lt n first) _ (lt-ltb n first h) f
    go false f g = g

-- numbers that rise above one rise
increasing-above : (n : ℕ) (ms : List ℕ) → above n ms ≡ true → increasing ms ≡ true
unfolding above increasing
increasing-above n [] h = refl
increasing-above n (m ∷ ms) h = and_right (nat_lt n m) (above m ms) h

-- the stations of a bill's entries rise
pub entries-rise : (rs : List Receipt) → increasing (stations_in (bill_of rs).entries) ≡ true
unfolding stations
entries-rise rs = increasing-above 0 (stations_in (entries_in (stations_from 1 station_limit) rs)) (from-above 0 1 station_limit rs (omega arith))

-- each entry is of one of the stations
from-station : (first k : ℕ) (rs : List Receipt) (e : Entry) → Memᴰ e (entries_in (stations_from first k) rs) → (first ≤ e.station) × (e.station < first + k)
unfolding entries_in stations_from
from-station first zero rs e m = absurd (Memᴰ.not-nil m)
from-station first (suc k) rs e m = go (nat_lt 0 (receipts_of first rs)) (λ m. from-station (suc first) k rs e m) m
  where
    go : (t : Bool) → (Memᴰ e (entries_in (stations_from (suc first) k) rs) → (suc first ≤ e.station) × (e.station < suc first + k))
        → Memᴰ e (cond t (record { station = first; accepted = accepted_of first rs; refused = refused_of first rs } ∷ entries_in (stations_from (suc first) k) rs) (entries_in (stations_from (suc first) k) rs))
        → (first ≤ e.station) × (e.station < first + suc k)
    go true below (Memᴰ.head q) = let s : e.station ≡ first = ap (λ (x : Entry). x.station) q in omega arith
    go true below (Memᴰ.tail m) = let b = below m in omega arith
    go false below m = let b = below m in omega arith

-- each entry of a bill is of a station from 1 to the limit
pub entry-station : (rs : List Receipt) (e : Entry) → Memᴰ e (bill_of rs).entries → (1 ≤ e.station) × (e.station ≤ station_limit)
unfolding stations
entry-station rs e m = let s = from-station 1 station_limit rs e m in omega arith

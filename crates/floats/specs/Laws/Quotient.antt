-- Laws of quotients: which numbers may be converted, and that no quotient is a NaN. Assumes nothing.
use Rattle.std.specs.Prelude.{◌≡◌, refl, Bool, true, false, cond, not, ℕ, zero, suc, ◌+◌, ◌*◌, ◌^◌, ◌<◌, ◌≤◌, replicate, ℤ, pos, negsuc, T, ltb, Float}
use Rattle.std.proofs.Math.Bool.{and-eq-true_iff}
use Rattle.std.proofs.Common.{arith, ltb→lt, leb-true, lt-ltb, ne_eqb}
use Rattle.std.specs.Float.{nan, inf, fin, Format, binary32}
use Rattle.std.specs.Float.Ieee.{is_nan, in_float, of_int, div, round, units, odd, low, emax, prec, unlike, up, down}
use Rattle.std.specs.Float.Ieee.Exact.{HasValue}
use Rattle.std.specs.Float.Ieee.Back.{round_whole}
use Rattle.std.specs.Float.Ieee.Positive.{positive, positive_of_value}
use Rattle.steps.specs.Delta.{advance, results_from, last_from}
use Rattle.payloads.specs.Exact.{exact_limit, exact, all_exact}

-- a number that is exact may be converted
pub exact-in : (z : ℤ) → exact z ≡ true → T (in_float binary32 z)
unfolding in_float
exact-in (pos n) e = rw e tt
exact-in (negsuc n) e = let h = leb-true (suc n) exact_limit e in rw (lt-ltb n exact_limit (omega arith)) tt

-- an exact divisor that is at least 1 is above zero as a float
pub divisor-positive : (m : ℕ) → exact (pos m) ≡ true → 1 ≤ m → T (positive (of_int binary32 (pos m)))
unfolding of_int
divisor-positive m e h = positive_of_value (round binary32 false m 1) m 1 (round_whole binary32 false m (leb-true m exact_limit e)) h

-- No NaN

odd_number : (d : ℕ) (s : Bool) (q k l : ℕ) → is_nan (odd d s q k l) ≡ false
unfolding odd is_nan
odd_number d s zero k l = refl
odd_number d s (suc q) k l = refl

units_number : (f : Format) (s : Bool) (q k : ℕ) → is_nan (units f s q k) ≡ false
unfolding units is_nan
units_number f s q k = by (ltb (q * 2 ^ k) (2 ^ (low f + suc (emax f)))) (odd (suc (prec f)) s q k (low f)) (odd_number (suc (prec f)) s q k (low f))
  where
    by : (t : Bool) (x : Float) → is_nan x ≡ false → is_nan (cond t x (inf s)) ≡ false
    by true x e = e
    by false x e = refl

round_number : (f : Format) (s : Bool) (n d : ℕ) → is_nan (round f s n d) ≡ false
unfolding round
round_number f s n d = units_number f s _ _

-- a finite number by one above zero
finite_number : (x : Float) (s : Bool) (a : ℕ) → HasValue x s a 1 → (d : Float) → T (positive d) → is_nan (div binary32 x d) ≡ false
unfolding div
finite_number nan s a h d p = absurd h
finite_number (inf t) s a h d p = absurd h
finite_number (fin t m e) s a h nan p = absurd p
finite_number (fin t m e) s a h (inf u) p = absurd p
finite_number (fin t m e) s a h (fin true n k) p = absurd p
finite_number (fin t m e) s a h (fin false n k) p =
    rw (ne_eqb n 0 (λ q. let z = ltb→lt 0 n p in omega arith)) (round_number binary32 (unlike t false) (m * up e * down k) (n * up k * down e))

-- a number by a divisor above zero is a number
pub quotient-number : (z : ℤ) (d : Float) → exact z ≡ true → T (positive d) → T (not (is_nan (div binary32 (of_int binary32 z) d)))
unfolding of_int
quotient-number (pos n) d e p = rw (finite_number (round binary32 false n 1) false n (round_whole binary32 false n (leb-true n exact_limit e)) d p) tt
quotient-number (negsuc n) d e p = rw (finite_number (round binary32 true (suc n) 1) true (suc n) (round_whole binary32 true (suc n) (leb-true (suc n) exact_limit e)) d p) tt

-- each of the k results of a run
pub run-exact : (d : Bool) (a v : ℤ) (k n : ℕ) → all_exact (results_from d a (replicate k v)) ≡ true → n < k → exact (advance d (last_from d a (replicate n v)) v) ≡ true
unfolding results_from last_from all_exact
run-exact d a v zero n h l = absurd (omega arith)
run-exact d a v (suc k) zero h l = ((and-eq-true_iff (exact (advance d a v)) (all_exact (results_from d (advance d a v) (replicate k v)))).0 h).0
run-exact d a v (suc k) (suc n) h l =
    run-exact d (advance d a v) v k n ((and-eq-true_iff (exact (advance d a v)) (all_exact (results_from d (advance d a v) (replicate k v)))).0 h).1 (omega arith)

-- Laws of delta: results of values one after the other, of runs of one value, and results into deltas and back. Assumes nothing.
use Rattle.std.specs.Prelude.{◌≡◌, ℕ, zero, suc, ◌+◌, ◌-◌, ◌*◌, ◌/◌, ◌%◌, ◌^◌, ◌<◌, ◌≤◌, Bool, true, false, List, [], ◌∷◌, ◌++◌, length, drop, replicate, ℤ, pos, FitsSigned, slice_index_or}
use Rattle.std.proofs.Math.Path.{refl, ap}
use Rattle.std.proofs.Common.{sym, ◌∙◌, mod-lt, div-add-mod', mul-le-mul, add-mul, mul_right_comm, to_z, of_z, Fits, to_z-of_z}
use native.Mathlib.Omega.{arith}
use Rattle.std.specs.Int.{w32}
use Rattle.std.proofs.Math.Facts.{of_z-to_z, Fits-of_z, sfits_to_z}
use Rattle.steps.specs.Fits.{Every, AllFit}
use Rattle.steps.specs.Delta.{plus_delta, minus_delta, advance, results_from, last_from, sums_if, plus_times, after_run, delta_if, deltas_from, deltas_if}
use Rattle.steps.proofs.Laws.Lists.{drop_at, drop-end}

-- One result

pub wrapped : (n : ℕ) → Fits w32 (n % 4294967296)
wrapped n = record { fits = mod-lt n (omega arith) }

pub plus-fits : (a d : ℤ) → FitsSigned w32 (plus_delta a d)
plus-fits a d = sfits_to_z {w = w32} (wrapped (of_z w32 a + of_z w32 d))

minus-fits : (x a : ℤ) → FitsSigned w32 (minus_delta x a)
minus-fits x a = sfits_to_z {w = w32} (wrapped (of_z w32 x + (4294967296 - of_z w32 a)))

pub plus-zero : (a : ℤ) → FitsSigned w32 a → plus_delta a (pos 0) ≡ a
plus-zero a f =
    let h = Fits-of_z {w = w32} f in
    let e : (of_z w32 a + 0) % 4294967296 ≡ of_z w32 a = omega arith in
    ap (to_z w32) e ∙ to_z-of_z {w = w32} f

module _ (a x : ℤ) (f : FitsSigned w32 a) (g : FitsSigned w32 x) where
  plus-minus : plus_delta a (minus_delta x a) ≡ x
  plus-minus =
      let h = Fits-of_z {w = w32} f in
      let k = Fits-of_z {w = w32} g in
      let e : (of_z w32 a + (of_z w32 x + (4294967296 - of_z w32 a)) % 4294967296) % 4294967296 ≡ of_z w32 x = omega arith in
      ap (λ (n : ℕ). to_z w32 ((of_z w32 a + n) % 4294967296)) (of_z-to_z {w = w32} (wrapped (of_z w32 x + (4294967296 - of_z w32 a)))) ∙ ap (to_z w32) e ∙ to_z-of_z {w = w32} g

  minus_plus : minus_delta (plus_delta a x) a ≡ x
  minus_plus =
      let h = Fits-of_z {w = w32} f in
      let k = Fits-of_z {w = w32} g in
      let e : ((of_z w32 a + of_z w32 x) % 4294967296 + (4294967296 - of_z w32 a)) % 4294967296 ≡ of_z w32 x = omega arith in
      ap (λ (n : ℕ). to_z w32 ((n + (4294967296 - of_z w32 a)) % 4294967296)) (of_z-to_z {w = w32} (wrapped (of_z w32 a + of_z w32 x))) ∙ ap (to_z w32) e ∙ to_z-of_z {w = w32} g

-- Deltas

-- without delta they are the results
pub deltas-plain : (a : ℤ) (xs : List ℤ) → deltas_from false a xs ≡ xs
unfolding deltas_from
deltas-plain a [] = refl
deltas-plain a (x ∷ xs) = ap (λ (l : List ℤ). x ∷ l) (deltas-plain x xs)

-- with delta they have 32 bits
pub deltas-fit : (a : ℤ) (xs : List ℤ) → AllFit w32 (deltas_from true a xs)
unfolding deltas_from Every
deltas-fit a [] = tt
deltas-fit a (x ∷ xs) = (minus-fits x a, deltas-fit x xs)

pub length-deltas : (d : Bool) (a : ℤ) (xs : List ℤ) → length (deltas_from d a xs) ≡ length xs
unfolding deltas_from
length-deltas d a [] = refl
length-deltas d a (x ∷ xs) = ap suc (length-deltas d x xs)

module _ (d : Bool) (a : ℤ) (xs : List ℤ) (i : ℕ) where
  abbrev read : ℤ
  read = to_z w32 (of_z w32 (slice_index_or xs i (pos 0)))

  -- the result at i as a program reads it, what the payload holds for it, and the results after it
  pub deltas-read : {y : ℤ} → i < length xs → FitsSigned w32 (slice_index_or xs i (pos 0)) → y ≡ delta_if d a read → deltas_from d a (drop i xs) ≡ y ∷ deltas_from d read (drop (i + 1) xs)
  unfolding deltas_from
  deltas-read h f e =
      ap (deltas_from d a) (drop_at (pos 0) xs i h) ∙ ap (λ (x : ℤ). delta_if d a x ∷ deltas_from d x (drop (i + 1) xs)) (sym (to_z-of_z {w = w32} f))
      ∙ ap (λ (x : ℤ). x ∷ deltas_from d read (drop (i + 1) xs)) (sym e)

  pub deltas-end : length xs ≤ i → deltas_from d a (drop i xs) ≡ []
  unfolding deltas_from
  deltas-end h = ap (deltas_from d a) (drop-end (pos 0) xs i h)

-- Results

-- without delta they are the values
pub results-plain : (a : ℤ) (vs : List ℤ) → results_from false a vs ≡ vs
unfolding results_from
results-plain a [] = refl
results-plain a (v ∷ vs) = ap (λ (l : List ℤ). v ∷ l) (results-plain v vs)

-- with delta they have 32 bits
pub results_fit : (a : ℤ) (vs : List ℤ) → AllFit w32 (results_from true a vs)
unfolding results_from Every
results_fit a [] = tt
results_fit a (v ∷ vs) = (plus-fits a v, results_fit (plus_delta a v) vs)

pub sums_if-fit : (d : Bool) (vs : List ℤ) → AllFit w32 vs → AllFit w32 (sums_if d vs)
sums_if-fit true vs f = results_fit (pos 0) vs
sums_if-fit false vs f = rw (results-plain (pos 0) vs) f

pub length-results : (d : Bool) (a : ℤ) (vs : List ℤ) → length (results_from d a vs) ≡ length vs
unfolding results_from
length-results d a [] = refl
length-results d a (v ∷ vs) = ap suc (length-results d (advance d a v) vs)

pub results-append : (d : Bool) (a : ℤ) (p q : List ℤ) → results_from d a (p ++ q) ≡ results_from d a p ++ results_from d (last_from d a p) q
unfolding results_from last_from
results-append d a [] q = refl
results-append d a (v ∷ p) q = ap (λ (l : List ℤ). advance d a v ∷ l) (results-append d (advance d a v) p q)

pub last-append : (d : Bool) (a : ℤ) (p q : List ℤ) → last_from d a (p ++ q) ≡ last_from d (last_from d a p) q
unfolding last_from
last-append d a [] q = refl
last-append d a (v ∷ p) q = last-append d (advance d a v) p q

-- one value more
pub results-one : (d : Bool) (a : ℤ) (p : List ℤ) (v : ℤ) → results_from d a (p ++ (v ∷ [])) ≡ results_from d a p ++ (advance d (last_from d a p) v ∷ [])
unfolding results_from
results-one d a p v = results-append d a p (v ∷ [])

pub last_one : (d : Bool) (a : ℤ) (p : List ℤ) (v : ℤ) → last_from d a (p ++ (v ∷ [])) ≡ advance d (last_from d a p) v
unfolding last_from
last_one d a p v = last-append d a p (v ∷ [])

-- Results of a run of one value

module _ (d : Bool) (a v : ℤ) where
  pub results-first : (k : ℕ) → 0 < k → results_from d a (replicate k v) ≡ advance d a v ∷ results_from d (advance d a v) (replicate (k - 1) v)
  unfolding results_from
  results-first zero h = absurd (omega arith)
  results-first (suc k) h = let e : suc k - 1 ≡ k = omega arith in rw e

  pub last-first : (k : ℕ) → 0 < k → last_from d a (replicate k v) ≡ last_from d (advance d a v) (replicate (k - 1) v)
  unfolding last_from
  last-first zero h = absurd (omega arith)
  last-first (suc k) h = let e : suc k - 1 ≡ k = omega arith in rw e

-- deltas of 0 leave the result before them, over and over
pub results-still : (a : ℤ) (k : ℕ) → FitsSigned w32 a → results_from true a (replicate k (pos 0)) ≡ replicate k a
unfolding results_from
results-still a zero f = refl
results-still a (suc k) f = rw (plus-zero a f) (ap (λ (l : List ℤ). a ∷ l) (results-still a k f))

pub last-still : (a : ℤ) (k : ℕ) → FitsSigned w32 a → last_from true a (replicate k (pos 0)) ≡ a
unfolding last_from
last-still a zero f = refl
last-still a (suc k) f = ap (λ (x : ℤ). last_from true x (replicate k (pos 0))) (plus-zero a f) ∙ last-still a k f

-- a product in place of a sum

times-step : (a v : ℤ) (k : ℕ) → plus_times (plus_delta a v) v k ≡ plus_times a v (suc k)
times-step a v k = ap (to_z w32) (inner (of_z w32 a) (of_z w32 v))
  where
    inner : (m n : ℕ) → (of_z w32 (to_z w32 ((m + n) % 2 ^ 32)) + k * n) % 2 ^ 32 ≡ (m + suc k * n) % 2 ^ 32
    inner m n =
        let e = of_z-to_z {w = w32} {n = (m + n) % 2 ^ 32} (wrapped (m + n)) in
        let f : suc k * n ≡ n + k * n = omega arith in
        rw (e, f) (linear (k * n))
      where
        linear : (t : ℕ) → ((m + n) % 2 ^ 32 + t) % 2 ^ 32 ≡ (m + (n + t)) % 2 ^ 32
        linear t = omega arith

times-one : (a v : ℤ) → plus_times a v 1 ≡ plus_delta a v
times-one a v = let e : 1 * of_z w32 v ≡ of_z w32 v = omega arith in rw e

pub run_at : (d : Bool) (a v : ℤ) (k j : ℕ) → j < k → slice_index_or (results_from d a (replicate k v)) j (pos 0) ≡ after_run d a v (suc j)
unfolding results_from
run_at d a v zero j h = absurd (omega arith)
run_at true a v (suc k) zero h = sym (times-one a v)
run_at false a v (suc k) zero h = refl
run_at true a v (suc k) (suc j) h = run_at true (plus_delta a v) v k j (omega arith) ∙ times-step a v (suc j)
run_at false a v (suc k) (suc j) h = run_at false v v k j (omega arith)

pub run-last : (d : Bool) (a v : ℤ) (k : ℕ) → 1 ≤ k → last_from d a (replicate k v) ≡ after_run d a v k
unfolding last_from
run-last d a v zero h = absurd (omega arith)
run-last true a v (suc zero) h = sym (times-one a v)
run-last false a v (suc zero) h = refl
run-last true a v (suc (suc k)) h = run-last true (plus_delta a v) v (suc k) (omega arith) ∙ times-step a v (suc k)
run-last false a v (suc (suc k)) h = run-last false v v (suc k) (omega arith)

-- a count may be taken modulo 2 ^ 32
pub times_mod : (m n k : ℕ) → (m + (k % 4294967296) * n) % 4294967296 ≡ (m + k * n) % 2 ^ 32
times_mod m n k =
    let e : k / 4294967296 * 4294967296 + k % 4294967296 ≡ k = div-add-mod' k 4294967296 in
    let f : k * n ≡ k / 4294967296 * n * 4294967296 + k % 4294967296 * n = ap (λ (x : ℕ). x * n) (sym e) ∙ spread (k / 4294967296) (k % 4294967296) in
    rw f (multiple (k / 4294967296 * n) (k % 4294967296 * n))
  where
    spread : (q r : ℕ) → (q * 4294967296 + r) * n ≡ q * n * 4294967296 + r * n
    spread q r = add-mul (q * 4294967296) r n ∙ ap (λ (x : ℕ). x + r * n) (mul_right_comm q 4294967296 n)

    multiple : (q r : ℕ) → (m + r) % 4294967296 ≡ (m + (q * 4294967296 + r)) % 4294967296
    multiple q r = omega arith

pub times-fit : (k n : ℕ) → n < 4294967296 → k % 4294967296 * n ≤ 18446744065119617025
times-fit k n h =
    let b : k % 4294967296 < 4294967296 = mod-lt k (omega arith) in
    let c : k % 4294967296 * n ≤ 4294967295 * 4294967295 = mul-le-mul {n₂ = 4294967295} {m₂ = 4294967295} (omega arith) (omega arith) in
    omega arith

-- There and back

module _ (d : Bool) (a x : ℤ) (f : FitsSigned w32 a) (g : FitsSigned w32 x) where
  advance-delta_if : advance d a (delta_if d a x) ≡ x
  advance-delta_if = by d
    where
      by : (b : Bool) → advance b a (delta_if b a x) ≡ x
      by true = plus-minus a x f g
      by false = refl

  delta_if-advance : delta_if d a (advance d a x) ≡ x
  delta_if-advance = by d
    where
      by : (b : Bool) → delta_if b a (advance b a x) ≡ x
      by true = minus_plus a x f g
      by false = refl

  advance-fits : FitsSigned w32 (advance d a x)
  advance-fits = by d
    where
      by : (b : Bool) → FitsSigned w32 (advance b a x)
      by true = plus-fits a x
      by false = g

module _ (d : Bool) where
  results-deltas : (a : ℤ) (xs : List ℤ) → FitsSigned w32 a → AllFit w32 xs → results_from d a (deltas_from d a xs) ≡ xs
  unfolding results_from deltas_from Every
  results-deltas a [] f g = refl
  results-deltas a (x ∷ xs) f g = rw (advance-delta_if d a x f g.0, results-deltas x xs g.0 g.1)

  deltas-results : (a : ℤ) (vs : List ℤ) → FitsSigned w32 a → AllFit w32 vs → deltas_from d a (results_from d a vs) ≡ vs
  unfolding results_from deltas_from Every
  deltas-results a [] f g = refl
  deltas-results a (v ∷ vs) f g = rw (delta_if-advance d a v f g.0, deltas-results (advance d a v) vs (advance-fits d a v f g.0) g.1)

-- Where a codec has the step

zero-fits : FitsSigned w32 (pos 0)
zero-fits = record { sfits = omega arith }

pub sums_if-deltas_if : (d : Bool) (xs : List ℤ) → AllFit w32 xs → sums_if d (deltas_if d xs) ≡ xs
sums_if-deltas_if d xs f = results-deltas d (pos 0) xs zero-fits f

pub deltas_if-sums_if : (d : Bool) (vs : List ℤ) → AllFit w32 vs → deltas_if d (sums_if d vs) ≡ vs
deltas_if-sums_if d vs f = deltas-results d (pos 0) vs zero-fits f

pub length-sums_if : (d : Bool) (vs : List ℤ) → length (sums_if d vs) ≡ length vs
length-sums_if d vs = length-results d (pos 0) vs

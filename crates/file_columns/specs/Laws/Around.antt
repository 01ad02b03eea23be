-- The sums of a run by the way that they go: integers of 32 bits stand in a circle, in which those between two numbers are one arc and those
-- outside the other. A step that is no longer than the arc outside cannot pass over it. Assumes nothing.
use Rattle.std.specs.Prelude.{◌≡◌, ℕ, zero, suc, ◌+◌, ◌-◌, ◌*◌, ◌%◌, ◌<◌, ◌≤◌, Bool, true, false, ◌&&◌, replicate, ℤ, pos, negsuc, FitsSigned, int_le, nat_le}
use Rattle.std.proofs.Math.Path.{refl, sym}
use Rattle.std.proofs.Common.{ap, ap₂, ◌∙◌, to_z, of_z, to_z-of_z}
use native.Mathlib.Omega.{arith}
use Rattle.std.specs.Int.{w32}
use Rattle.std.proofs.Math.Facts.{of_z-to_z, Fits-of_z}
use borrow.Author.Tests.{le-leb, lt-leb, leb-true, leb-false}
use Rattle.numbers.specs.Ranges.{all_pass, between}
use Rattle.steps.specs.Delta.{plus_delta, results_from}
use Rattle.steps.proofs.Laws.Delta.{wrapped, plus-fits}
use Rattle.file_columns.specs.Passing.{ahead_of}

-- the place of an integer among those of 32 bits, 0 for the smallest
abbrev rank : ℤ → ℕ
rank x = (of_z w32 x + 2147483648) % 4294967296

leb_as : (a b c d : ℕ) → (a ≤ b → c ≤ d) → (b < a → d < c) → nat_le a b ≡ nat_le c d
leb_as a b c d f g = by (nat_le a b) refl
  where
    by : (t : Bool) → nat_le a b ≡ t → t ≡ nat_le c d
    by true e = sym (le-leb c d (f (leb-true a b e)))
    by false e = sym (lt-leb c d (g (leb-false a b e)))

rank-order : (a b : ℤ) → FitsSigned w32 a → FitsSigned w32 b → int_le a b ≡ nat_le (rank a) (rank b)
rank-order (pos a) (pos b) f g = leb_as a b (rank (pos a)) (rank (pos b)) (λ h. omega arith) (λ h. omega arith)
rank-order (pos a) (negsuc b) f g = sym (lt-leb (rank (pos a)) (rank (negsuc b)) (omega arith))
rank-order (negsuc a) (pos b) f g = sym (le-leb (rank (negsuc a)) (rank (pos b)) (omega arith))
rank-order (negsuc a) (negsuc b) f g = leb_as b a (rank (negsuc a)) (rank (negsuc b)) (λ h. omega arith) (λ h. omega arith)

rank-plus : (x v : ℤ) → rank (plus_delta x v) ≡ (rank x + of_z w32 v) % 4294967296
rank-plus x v = ap (λ (n : ℕ). (n + 2147483648) % 4294967296) (of_z-to_z {w = w32} (wrapped (of_z w32 x + of_z w32 v))) ∙ inner (of_z w32 x) (of_z w32 v)
  where
    inner : (m n : ℕ) → ((m + n) % 4294967296 + 2147483648) % 4294967296 ≡ ((m + 2147483648) % 4294967296 + n) % 4294967296
    inner m n = omega arith

-- the way from an integer to one that is not smaller
ahead-rank : (a b : ℤ) → FitsSigned w32 a → FitsSigned w32 b → rank a ≤ rank b → ahead_of a b + rank a ≡ rank b
ahead-rank a b f g h =
    let p = Fits-of_z {w = w32} f in
    let q = Fits-of_z {w = w32} g in
    inner (of_z w32 a) (of_z w32 b) p.fits q.fits h
  where
    inner : (m n : ℕ) → m < 4294967296 → n < 4294967296 → (m + 2147483648) % 4294967296 ≤ (n + 2147483648) % 4294967296 → (n + (4294967296 - m)) % 4294967296 + (m + 2147483648) % 4294967296 ≡ (n + 2147483648) % 4294967296
    inner m n i j k = omega arith

-- a step that is no longer than the way around outside, by the ways from a place r up to h and down to l
module _ (n a b l r h : ℕ) (p : a + r ≡ h) (q : b + l ≡ r) (w : a + b ≤ 4294967295) where
  gap_up : n ≤ 4294967295 - a - b → n + h < 4294967296 + l
  gap_up i = omega arith

  gap_down : 4294967296 - n ≤ 4294967295 - a - b → h < n + l
  gap_down i = omega arith

module _ (low high : ℤ) (fl : FitsSigned w32 low) (fh : FitsSigned w32 high) where
  abbrev test : ℤ → Bool
  test = between low high

  -- between two numbers, by ranks
  test-rank : (x : ℤ) → FitsSigned w32 x → test x ≡ (nat_le (rank low) (rank x) && nat_le (rank x) (rank high))
  test-rank x f = ap₂ (λ (s t : Bool). s && t) (rank-order low x fl f) (rank-order x high f fh)

  inside : (x : ℤ) → FitsSigned w32 x → test x ≡ true → (rank low ≤ rank x) × (rank x ≤ rank high)
  inside x f e = by (nat_le (rank low) (rank x)) (nat_le (rank x) (rank high)) refl refl (sym (test-rank x f) ∙ e)
    where
      by : (s t : Bool) → nat_le (rank low) (rank x) ≡ s → nat_le (rank x) (rank high) ≡ t → (s && t) ≡ true → (rank low ≤ rank x) × (rank x ≤ rank high)
      by true true p q r = (leb-true (rank low) (rank x) p, leb-true (rank x) (rank high) q)
      by true false p q r = let z : ◌≡◌ {A = ℕ} 0 1 = cc in absurd (omega arith)
      by false t p q r = let z : ◌≡◌ {A = ℕ} 0 1 = cc in absurd (omega arith)

  is-inside : (x : ℤ) → FitsSigned w32 x → rank low ≤ rank x → rank x ≤ rank high → test x ≡ true
  is-inside x f p q = test-rank x f ∙ rw (le-leb (rank low) (rank x) p, le-leb (rank x) (rank high) q)

  below-low : (x : ℤ) → FitsSigned w32 x → rank x < rank low → test x ≡ false
  below-low x f p = test-rank x f ∙ rw (lt-leb (rank low) (rank x) p)

  above-high : (x : ℤ) → FitsSigned w32 x → rank high < rank x → test x ≡ false
  above-high x f p = test-rank x f ∙ rw (lt-leb (rank x) (rank high) p) (and-false (nat_le (rank low) (rank x)))
    where
      and-false : (b : Bool) → (b && false) ≡ false
      and-false true = refl
      and-false false = refl

  -- Steps that cannot pass over what is outside: where the room inside has place for a step the next sum is inside, with so much less room;
  -- else it is outside.
  module _ (v : ℤ) (s : ℕ) (room : ℤ → ℕ)
      (on : (x : ℤ) → FitsSigned w32 x → test x ≡ true → s ≤ room x → (test (plus_delta x v) ≡ true) × (s + room (plus_delta x v) ≡ room x))
      (off : (x : ℤ) → FitsSigned w32 x → test x ≡ true → room x < s → test (plus_delta x v) ≡ false) where
    -- the room decides for all of k sums
    room-decides : (k : ℕ) (x : ℤ) → FitsSigned w32 x → test x ≡ true → all_pass test (results_from true x (replicate k v)) ≡ nat_le (k * s) (room x)
    unfolding all_pass results_from
    room-decides zero x f e = sym (le-leb (0 * s) (room x) (omega arith))
    room-decides (suc k) x f e = by (nat_le s (room x)) refl (room-decides k (plus_delta x v) (plus-fits x v))
      where
        by : (t : Bool) → nat_le s (room x) ≡ t
            → (test (plus_delta x v) ≡ true → all_pass test (results_from true (plus_delta x v) (replicate k v)) ≡ nat_le (k * s) (room (plus_delta x v)))
            → (test (plus_delta x v) && all_pass test (results_from true (plus_delta x v) (replicate k v))) ≡ nat_le (suc k * s) (room x)
        by true q next =
            let h = on x f e (leb-true s (room x) q) in
            let r = h.1 in
            let m : suc k * s ≡ s + k * s = omega arith in
            rw (h.0, next h.0, m) (leb_as (k * s) (room (plus_delta x v)) (s + k * s) (room x) (λ i. omega arith) (λ i. omega arith))
        by false q next =
            let g = leb-false s (room x) q in
            let m : suc k * s ≡ s + k * s = omega arith in
            rw (off x f e g, m) (sym (lt-leb (s + k * s) (room x) (omega arith)))

  -- the ways up to the larger number and down to the smaller one
  ways : (x : ℤ) → FitsSigned w32 x → test x ≡ true → (ahead_of x high + rank x ≡ rank high) × (ahead_of low x + rank low ≡ rank x)
  ways x f e = let i = inside x f e in (ahead-rank x high f fh i.1, ahead-rank low x fl f i.0)

  module _ (v : ℤ) (fv : FitsSigned w32 v) where
    -- the next sum where it does not pass the end of the circle, and where it does
    plus-short : (x : ℤ) → rank x + of_z w32 v < 4294967296 → rank (plus_delta x v) ≡ rank x + of_z w32 v
    plus-short x h = let p = rank-plus x v in omega arith

    plus-long : (x : ℤ) → 4294967296 ≤ rank x + of_z w32 v → rank (plus_delta x v) + 4294967296 ≡ rank x + of_z w32 v
    plus-long x h =
        let p = rank-plus x v in
        let q = Fits-of_z {w = w32} fv in
        let r = q.fits in
        omega arith

    -- upwards: a step is no longer than the way around outside
    upwards : of_z w32 v + rank high < 4294967296 + rank low → (k : ℕ) (x : ℤ) → FitsSigned w32 x → test x ≡ true
        → all_pass test (results_from true x (replicate k v)) ≡ nat_le (k * of_z w32 v) (ahead_of x high)
    upwards gap = room-decides v (of_z w32 v) (λ (x : ℤ). ahead_of x high) on off
      where
        on : (x : ℤ) → FitsSigned w32 x → test x ≡ true → of_z w32 v ≤ ahead_of x high → (test (plus_delta x v) ≡ true) × (of_z w32 v + ahead_of (plus_delta x v) high ≡ ahead_of x high)
        on x f e h =
            let i = inside x f e in
            let a = ways x f e in
            let p = plus-short x (omega arith) in
            let t = is-inside (plus_delta x v) (plus-fits x v) (omega arith) (omega arith) in
            let b = ways (plus_delta x v) (plus-fits x v) t in
            (t, omega arith)

        off : (x : ℤ) → FitsSigned w32 x → test x ≡ true → ahead_of x high < of_z w32 v → test (plus_delta x v) ≡ false
        off x f e h = by (nat_le 4294967296 (rank x + of_z w32 v)) refl
          where
            by : (t : Bool) → nat_le 4294967296 (rank x + of_z w32 v) ≡ t → test (plus_delta x v) ≡ false
            by true q =
                let i = inside x f e in
                let p = plus-long x (leb-true 4294967296 (rank x + of_z w32 v) q) in
                below-low (plus_delta x v) (plus-fits x v) (omega arith)
            by false q =
                let a = ways x f e in
                let p = plus-short x (leb-false 4294967296 (rank x + of_z w32 v) q) in
                above-high (plus_delta x v) (plus-fits x v) (omega arith)

    -- downwards: the same of the step that is left to the whole circle
    downwards : rank high < of_z w32 v + rank low → (k : ℕ) (x : ℤ) → FitsSigned w32 x → test x ≡ true
        → all_pass test (results_from true x (replicate k v)) ≡ nat_le (k * (4294967296 - of_z w32 v)) (ahead_of low x)
    downwards gap = room-decides v (4294967296 - of_z w32 v) (λ (x : ℤ). ahead_of low x) on off
      where
        fit : of_z w32 v < 4294967296
        fit = (Fits-of_z {w = w32} fv).fits

        on : (x : ℤ) → FitsSigned w32 x → test x ≡ true → 4294967296 - of_z w32 v ≤ ahead_of low x
            → (test (plus_delta x v) ≡ true) × (4294967296 - of_z w32 v + ahead_of low (plus_delta x v) ≡ ahead_of low x)
        on x f e h =
            let l = fit in
            let i = inside x f e in
            let a = ways x f e in
            let p = plus-long x (omega arith) in
            let t = is-inside (plus_delta x v) (plus-fits x v) (omega arith) (omega arith) in
            (t, less (of_z w32 v) (rank x) (rank (plus_delta x v)) (ahead_of low x) (ahead_of low (plus_delta x v)) l a.1 (ways (plus_delta x v) (plus-fits x v) t).1 p)
          where
            less : (n r r' a b : ℕ) → n < 4294967296 → a + rank low ≡ r → b + rank low ≡ r' → r' + 4294967296 ≡ r + n → 4294967296 - n + b ≡ a
            less n r r' a b l p q h = omega arith

        off : (x : ℤ) → FitsSigned w32 x → test x ≡ true → ahead_of low x < 4294967296 - of_z w32 v → test (plus_delta x v) ≡ false
        off x f e h = by (nat_le 4294967296 (rank x + of_z w32 v)) refl
          where
            by : (t : Bool) → nat_le 4294967296 (rank x + of_z w32 v) ≡ t → test (plus_delta x v) ≡ false
            by true q =
                let a = ways x f e in
                let p = plus-long x (leb-true 4294967296 (rank x + of_z w32 v) q) in
                below-low (plus_delta x v) (plus-fits x v) (omega arith)
            by false q =
                let i = inside x f e in
                let p = plus-short x (leb-false 4294967296 (rank x + of_z w32 v) q) in
                above-high (plus_delta x v) (plus-fits x v) (omega arith)

    -- by a sum that is inside: the numbers outside are those that are on neither way
    module _ (x : ℤ) (f : FitsSigned w32 x) (e : test x ≡ true) where
      pub ways-fit : ahead_of x high + ahead_of low x ≤ 4294967295
      ways-fit =
          let i = inside x f e in
          let a = ways x f e in
          omega arith

      pub stays_up : of_z w32 v ≤ 4294967295 - ahead_of x high - ahead_of low x → (k : ℕ) → all_pass test (results_from true x (replicate k v)) ≡ nat_le (k * of_z w32 v) (ahead_of x high)
      stays_up h k = let a = ways x f e in upwards (gap_up (of_z w32 v) (ahead_of x high) (ahead_of low x) (rank low) (rank x) (rank high) a.0 a.1 ways-fit h) k x f e

      pub stays-down : 4294967296 - of_z w32 v ≤ 4294967295 - ahead_of x high - ahead_of low x → (k : ℕ) → all_pass test (results_from true x (replicate k v)) ≡ nat_le (k * (4294967296 - of_z w32 v)) (ahead_of low x)
      stays-down h k = let a = ways x f e in downwards (gap_down (of_z w32 v) (ahead_of x high) (ahead_of low x) (rank low) (rank x) (rank high) a.0 a.1 ways-fit h) k x f e

-- Steps of half the circle: there and back

back : (x v : ℤ) → FitsSigned w32 x → of_z w32 v ≡ 2147483648 → plus_delta (plus_delta x v) v ≡ x
back x v f h =
    let p = Fits-of_z {w = w32} f in
    let q = p.fits in
    let e : ((of_z w32 x + of_z w32 v) % 4294967296 + of_z w32 v) % 4294967296 ≡ of_z w32 x = omega arith in
    ap (λ (n : ℕ). to_z w32 ((n + of_z w32 v) % 4294967296)) (of_z-to_z {w = w32} (wrapped (of_z w32 x + of_z w32 v))) ∙ ap (to_z w32) e ∙ to_z-of_z {w = w32} f

-- where the sum before them passes, the next decides for all of them
pub turns : (test : ℤ → Bool) (x v : ℤ) → FitsSigned w32 x → of_z w32 v ≡ 2147483648 → test x ≡ true → (k : ℕ) → 0 < k → all_pass test (results_from true x (replicate k v)) ≡ test (plus_delta x v)
unfolding all_pass results_from
turns test x v f h e zero l = absurd (omega arith)
turns test x v f h e (suc zero) l = by (test (plus_delta x v))
  where
    by : (t : Bool) → (t && true) ≡ t
    by true = refl
    by false = refl
turns test x v f h e (suc (suc zero)) l = rw (back x v f h, e) (by (test (plus_delta x v)))
  where
    by : (t : Bool) → (t && true) ≡ t
    by true = refl
    by false = refl
turns test x v f h e (suc (suc (suc k))) l = rw (back x v f h, e) (by (test (plus_delta x v)) (turns test x v f h e (suc k) (omega arith)))
  where
    by : (t : Bool) → all_pass test (results_from true x (replicate (suc k) v)) ≡ t → (t && all_pass test (results_from true x (replicate (suc k) v))) ≡ t
    by true q = q
    by false q = refl

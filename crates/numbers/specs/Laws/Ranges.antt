-- Laws of integers between two others and of indices: lists one after the other, runs of one integer, and the tests of the code. Assumes nothing.
use Rattle.std.specs.Prelude.{◌≡◌, Bool, cond, ◌&&◌, replicate, ℤ, pos, negsuc, nat_abs, leb, ltb}
use Rattle.std.proofs.Math.Path.{refl}
use Rattle.std.proofs.Common.{ap, ◌∙◌, arith, of_z, ltb-true, le-leb, leb-true}
use Rattle.std.proofs.Math.Bool.{true, false}
use mathlib.Core.List.{List, [], ◌∷◌, ◌++◌}
use Prim.Native.Nat.{ℕ, zero, suc, ◌-◌, ◌≤◌, ◌<◌}
use Rattle.std.specs.Int.Signed.{lt_z, le_z}
use Rattle.std.specs.Int.{w32}
use Rattle.numbers.specs.Ranges.{integer_limit, all_pass, below, last_index}

module _ (test : ℤ → Bool) where
  pub all_pass-append : (p q : List ℤ) → all_pass test (p ++ q) ≡ (all_pass test p && all_pass test q)
  unfolding all_pass
  all_pass-append [] q = refl
  all_pass-append (x ∷ p) q = by (test x) (all_pass-append p q)
    where
      by : (t : Bool) → all_pass test (p ++ q) ≡ (all_pass test p && all_pass test q) → (t && all_pass test (p ++ q)) ≡ ((t && all_pass test p) && all_pass test q)
      by true e = e
      by false e = refl

  pub all_pass-same : (k : ℕ) (x : ℤ) → 1 ≤ k → all_pass test (replicate k x) ≡ test x
  unfolding all_pass
  all_pass-same zero x h = absurd (omega arith)
  all_pass-same (suc zero) x h = by (test x)
    where
      by : (t : Bool) → (t && true) ≡ t
      by true = refl
      by false = refl
  all_pass-same (suc (suc k)) x h = by (test x) (all_pass-same (suc k) x (omega arith))
    where
      by : (t : Bool) → all_pass test (replicate (suc k) x) ≡ t → (t && all_pass test (replicate (suc k) x)) ≡ t
      by true e = e
      by false e = refl

  -- the first cells pass, or do not
  pub all_pass-on : (p q : List ℤ) → all_pass test p ≡ true → all_pass test (p ++ q) ≡ all_pass test q
  all_pass-on p q e = all_pass-append p q ∙ rw e

  pub all_pass-off : (p q : List ℤ) → all_pass test p ≡ false → all_pass test (p ++ q) ≡ false
  all_pass-off p q e = all_pass-append p q ∙ rw e

-- the tests of the code

pub between-above : (low high x : ℤ) → le_z low x ≡ true → le_z x high ≡ (le_z low x && le_z x high)
between-above low high x e = rw e

pub between-below : (low high x : ℤ) → le_z low x ≡ false → false ≡ (le_z low x && le_z x high)
between-below low high x e = rw e

pub below-negative : (n : ℕ) (x : ℤ) → lt_z x (pos 0) ≡ true → below n x ≡ false
below-negative n (pos i) e = absurd (omega (arith, ltb-true i 0 e))
below-negative n (negsuc i) e = refl

-- a cell that is not negative is its own bits, and an index where it is below the table's size
pub index-bits : (x : ℤ) → lt_z x (pos 0) ≡ false → of_z w32 x ≡ nat_abs x
index-bits (pos i) e = refl
index-bits (negsuc i) e = let y : ◌≡◌ {A = ℕ} 0 1 = cc in absurd (omega arith)

pub below-index : (n : ℕ) (x : ℤ) → lt_z x (pos 0) ≡ false → below n x ≡ ltb (nat_abs x) n
below-index n (pos i) e = refl
below-index n (negsuc i) e = let y : ◌≡◌ {A = ℕ} 0 1 = cc in absurd (omega arith)

-- the last index
pub last-zero : {n : ℕ} → n ≡ 0 → last_index n ≡ negsuc 0
last-zero e = ap last_index e

pub last-suc : (n : ℕ) → (n ≡ 0 → ⊥) → n ≤ integer_limit → last_index n ≡ pos (n - 1)
last-suc zero h l = absurd (h refl)
last-suc (suc n) h l = let i : n ≡ suc n - 1 = omega arith in rw (le-leb n integer_limit (omega arith)) (ap pos i)

pub last-long : (n : ℕ) → integer_limit < n → last_index n ≡ pos integer_limit
last-long zero l = absurd (omega arith)
last-long (suc n) l = go (leb n integer_limit) refl
  where
    go : (b : Bool) → leb n integer_limit ≡ b → pos (cond b n integer_limit) ≡ pos integer_limit
    go true e = let i : n ≡ integer_limit = omega (arith, leb-true n integer_limit e) in ap pos i
    go false e = refl

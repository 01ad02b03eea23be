-- Laws of cells taken together: lists one after the other, and runs of one cell. Assumes nothing.
use Rattle.std.specs.Prelude.{◌≡◌, ℕ, zero, suc, ◌+◌, ◌*◌, Bool, true, List, [], ◌∷◌, ◌++◌, replicate, ℤ, slice_index, unsigned_abs}
use Rattle.std.proofs.Math.Path.{refl}
use Rattle.std.proofs.Math.Bool.{and-eq-true_iff}
use native.Mathlib.Omega.{arith}
use Rattle.numbers.specs.Ranges.{all_pass}
use Rattle.steps.specs.Fits.{Every}
use Rattle.file_columns.specs.Cells.{total}

module _ (test : ℤ → Bool) where
  -- all cells pass where every one does
  pub all_pass-every : (xs : List ℤ) → all_pass test xs ≡ true → Every (λ (x : ℤ). test x ≡ true) xs
  unfolding all_pass Every
  all_pass-every [] e = tt
  all_pass-every (x ∷ xs) e = let g = (and-eq-true_iff (test x) (all_pass test xs)).0 e in (g.0, all_pass-every xs g.1)

  pub every-all_pass : (xs : List ℤ) → Every (λ (x : ℤ). test x ≡ true) xs → all_pass test xs ≡ true
  unfolding all_pass Every
  every-all_pass [] e = refl
  every-all_pass (x ∷ xs) e = rw (e.0, every-all_pass xs e.1)

module _ (table : List ℕ) where
  pub total-append : (p q : List ℤ) → total table (p ++ q) ≡ total table p + total table q
  unfolding total
  total-append [] q = omega arith
  total-append (x ∷ p) q = let e = total-append p q in omega arith

  pub total-same : (k : ℕ) (x : ℤ) → total table (replicate k x) ≡ slice_index table (unsigned_abs x) * k
  unfolding total
  total-same zero x = omega arith
  total-same (suc k) x = let e = total-same k x in omega arith

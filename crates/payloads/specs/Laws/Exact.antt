-- Laws of numbers that are exact in single precision. Assumes nothing.
use Rattle.std.specs.Prelude.{◌≡◌, ℕ, zero, suc, ◌<◌, ◌≤◌, Bool, true, false, ◌&&◌, List, [], ◌∷◌, ◌++◌, replicate, ℤ, pos, negsuc, FitsSigned, ◌≢◌, int_le, int_lt, refl}
use Rattle.std.proofs.Common.{sym, ◌∙◌, arith, le-leb, ltb-true, ltb-false}
use Rattle.std.proofs.Math.Bool.{and-eq-true_iff}
use Rattle.std.specs.Int.Signed.{mag}
use Rattle.std.specs.Int.{w8, w16}
use Rattle.std.proofs.lemmas.Bool.{lt-leb}
use Rattle.steps.specs.declared.Size.{Size}
use Rattle.steps.specs.declared.Size.TheVariants.{One, Two, Four}
use Rattle.steps.specs.Numbers.{numbers_in}
use Rattle.steps.specs.Fits.{Every}
use Rattle.steps.proofs.Laws.Allowed.{and-true}
use Rattle.steps.proofs.Laws.NumbersBack.{numbers_in-fit}
use Rattle.payloads.specs.Exact.{exact_limit, exact, all_exact}

pub every-exact : (P : ℤ → Type 0) → ((x : ℤ) → P x → exact x ≡ true) → (xs : List ℤ) → Every P xs → all_exact xs ≡ true
unfolding Every all_exact
every-exact P h [] e = refl
every-exact P h (x ∷ xs) e = rw (h x e.0, every-exact P h xs e.1)

-- Plain numbers of one and two bytes are exact

pub small-exact : (k : ℕ) (x : ℤ) → k ≤ exact_limit → mag x < k → exact x ≡ true
small-exact k (pos n) h m = le-leb n exact_limit (omega arith)
small-exact k (negsuc n) h m = le-leb (suc n) exact_limit (omega arith)

pub plain-exact : (z : Size) (s : List ℕ) → (z ≢ Four) → all_exact (numbers_in z s) ≡ true
plain-exact One s h = every-exact (FitsSigned w8) (λ x f. small-exact 128 x (omega arith) f.sfits) (numbers_in One s) (numbers_in-fit One s)
plain-exact Two s h = every-exact (FitsSigned w16) (λ x f. small-exact 32768 x (omega arith) f.sfits) (numbers_in Two s) (numbers_in-fit Two s)
plain-exact Four s h = absurd (h refl)

-- the two tests of the code
pub exact_below : (z : ℤ) → int_lt z (negsuc 16777215) ≡ true → exact z ≡ false
exact_below (pos n) e = let y : ◌≡◌ {A = ℕ} 0 1 = cc in absurd (omega arith)
exact_below (negsuc n) e = lt-leb (suc n) exact_limit (omega (arith, ltb-true 16777215 n e))

pub exact_above : (z : ℤ) → int_lt z (negsuc 16777215) ≡ false → exact z ≡ int_le z (pos exact_limit)
exact_above (pos n) e = refl
exact_above (negsuc n) e = le-leb (suc n) exact_limit (omega (arith, ltb-false 16777215 n e))

-- Lists of exact numbers

pub exact-append : (p q : List ℤ) → all_exact (p ++ q) ≡ (all_exact p && all_exact q)
unfolding all_exact
exact-append [] q = refl
exact-append (x ∷ p) q = by (exact x) (exact-append p q)
  where
    by : (t : Bool) → all_exact (p ++ q) ≡ (all_exact p && all_exact q) → (t && all_exact (p ++ q)) ≡ ((t && all_exact p) && all_exact q)
    by true e = e
    by false e = refl

pub exact_same : (k : ℕ) (v : ℤ) → 1 ≤ k → all_exact (replicate k v) ≡ exact v
unfolding all_exact
exact_same zero v h = absurd (omega arith)
exact_same (suc zero) v h = and-true (exact v)
exact_same (suc (suc k)) v h = by (exact v) (exact_same (suc k) v (omega arith))
  where
    by : (t : Bool) → all_exact (replicate (suc k) v) ≡ t → (t && all_exact (replicate (suc k) v)) ≡ t
    by true e = e
    by false e = refl

pub exact-parts : (p q : List ℤ) → all_exact (p ++ q) ≡ true → (all_exact p ≡ true) × (all_exact q ≡ true)
exact-parts p q e = (and-eq-true_iff (all_exact p) (all_exact q)).0 (sym (exact-append p q) ∙ e)

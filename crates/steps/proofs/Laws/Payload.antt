-- Laws of payloads: the ranges of values. Assumes nothing.
use Rattle.std.specs.Prelude.{◌≡◌, ℕ, true, false, ℤ, pos, negsuc, int_le, int_lt, refl}
use Rattle.std.proofs.Common.{arith, ltb-true, ltb-false, le-leb}
use Rattle.std.proofs.lemmas.Bool.{lt-leb}
use Rattle.steps.specs.declared.Range.{Range}
use Rattle.steps.specs.Payload.{least_in, most_in, in_range}

-- Ranges

lt_not_le : (a b : ℤ) → int_lt a b ≡ true → int_le b a ≡ false
lt_not_le (pos m) (pos n) e = lt-leb n m (ltb-true m n e)
lt_not_le (pos m) (negsuc n) e = let y : ◌≡◌ {A = ℕ} 0 1 = cc in absurd (omega arith)
lt_not_le (negsuc m) (pos n) e = refl
lt_not_le (negsuc m) (negsuc n) e = lt-leb m n (ltb-true n m e)

not-lt-le : (a b : ℤ) → int_lt a b ≡ false → int_le b a ≡ true
not-lt-le (pos m) (pos n) e = le-leb n m (ltb-false m n e)
not-lt-le (pos m) (negsuc n) e = refl
not-lt-le (negsuc m) (pos n) e = let y : ◌≡◌ {A = ℕ} 0 1 = cc in absurd (omega arith)
not-lt-le (negsuc m) (negsuc n) e = le-leb m n (ltb-false n m e)

pub range-below : (r : Range) (x : ℤ) → int_lt x (least_in r) ≡ true → in_range r x ≡ false
range-below r x e = rw (lt_not_le x (least_in r) e)

pub range-not-below : (r : Range) (x : ℤ) → int_lt x (least_in r) ≡ false → in_range r x ≡ int_le x (most_in r)
range-not-below r x e = rw (not-lt-le x (least_in r) e)

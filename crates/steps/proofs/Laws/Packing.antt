-- Laws of packing, once over the size: limits by their bits, and the turns of unpacking. Assumes nothing.
use Rattle.std.specs.Prelude.{◌≡◌, ℕ, suc, ◌+◌, ◌-◌, ◌<◌, ◌≤◌, Bool, true, false, cond, ℤ, pos, negsuc, ◌+ℤ◌, FitsSigned, ◌==◌, ◌≢◌, int_lt, nat_lt, refl}
use Rattle.std.proofs.Common.{sym, ◌∙◌, arith, of_z, ltb-true, ltb-false, lt-ltb, le-ltb, eq-eqb, ne_eqb, eqb-true}
use Rattle.std.specs.Int.Signed.{mag}
use Rattle.std.specs.Int.{w32}
use Rattle.std.proofs.lemmas.Bool.{eqb-false}
use Rattle.steps.specs.declared.Size.{Size}
use Rattle.steps.specs.declared.Size.TheVariants.{One, Two, Four}
use Rattle.steps.specs.declared.Turn.TheVariants.{More, Done, Wrong}
use Rattle.steps.specs.Width.{upper, lower}
use Rattle.steps.specs.Packing.{is_limit}
use Rattle.steps.specs.Steps.{turn_of}

-- Limits

pub limits : (z : Size) → (0 < upper z) × (upper z < 2147483648) × (0 < lower z) × (lower z ≤ 2147483648)
limits One = (omega arith, omega arith, omega arith, omega arith)
limits Two = (omega arith, omega arith, omega arith, omega arith)
limits Four = (omega arith, omega arith, omega arith, omega arith)

module _ (p q : ℕ) (p-small : p < 2147483648) (q-pos : 0 < q) (q-small : q ≤ 2147483648) where
  upper-bits : (x : ℤ) → FitsSigned w32 x → of_z w32 x ≡ p → is_limit p q x ≡ true
  upper-bits (pos n) f e = eq-eqb n p e
  upper-bits (negsuc n) f e = absurd (omega (arith, f.sfits))

  lower-same : (n : ℕ) → n < 2147483648 → (t : Bool) → (suc n == q) ≡ t → (4294967296 - suc n == 4294967296 - q) ≡ t
  lower-same n h true e = eq-eqb (4294967296 - suc n) (4294967296 - q) (omega (arith, eqb-true (suc n) q e))
  lower-same n h false e = ne_eqb (4294967296 - suc n) (4294967296 - q) (λ k. eqb-false (suc n) q e (omega arith))

  lower-bits : (x : ℤ) → FitsSigned w32 x → (of_z w32 x ≢ p) → (of_z w32 x == 4294967296 - q) ≡ is_limit p q x
  lower-bits (pos n) f ne = ne_eqb n (4294967296 - q) (λ k. omega (arith, f.sfits)) ∙ sym (ne_eqb n p ne)
  lower-bits (negsuc n) f ne = lower-same n f.sfits (suc n == q) refl

-- the test of the upper limit, and of the lower one where that fails
pub limit-above : (z : Size) (x : ℤ) → FitsSigned w32 x → of_z w32 x ≡ upper z → is_limit (upper z) (lower z) x ≡ true
limit-above z x f e = let l = limits z in upper-bits (upper z) (lower z) l.1 l.2 l.3 x f e

pub limit-below : (z : Size) (x : ℤ) → FitsSigned w32 x → (of_z w32 x ≢ upper z) → (of_z w32 x == 4294967296 - lower z) ≡ is_limit (upper z) (lower z) x
limit-below z x f e = let l = limits z in lower-bits (upper z) (lower z) l.1 l.2 l.3 x f e

-- Sums held to 32 bits

mag-cond : (a b : ℕ) (t : Bool) → mag (cond t (negsuc (suc b - suc a)) (pos (a - suc b))) ≤ suc (a + b)
mag-cond a b true = omega arith
mag-cond a b false = omega arith

pub mag-add : (x y : ℤ) → mag (x +ℤ y) ≤ suc (mag x + mag y)
mag-add (pos a) (pos b) = omega arith
mag-add (pos a) (negsuc b) = mag-cond a b (nat_lt a (suc b))
mag-add (negsuc a) (pos b) = let h = mag-cond b a (nat_lt b (suc a)) in omega arith
mag-add (negsuc a) (negsuc b) = omega arith

pub in-32 : (z : ℤ) → int_lt z (negsuc 2147483647) ≡ false → int_lt (pos 2147483647) z ≡ false → mag z < 2147483648
in-32 (pos n) l h = omega (arith, ltb-false 2147483647 n h)
in-32 (negsuc n) l h = omega (arith, ltb-false 2147483647 n l)

pub below-32 : (z : ℤ) → int_lt z (negsuc 2147483647) ≡ true → 2147483648 ≤ mag z
below-32 (pos n) l = let y : ◌≡◌ {A = ℕ} 0 1 = cc in absurd (omega arith)
below-32 (negsuc n) l = omega (arith, ltb-true 2147483647 n l)

pub above-32 : (z : ℤ) → int_lt (pos 2147483647) z ≡ true → 2147483648 ≤ mag z
above-32 (pos n) l = omega (arith, ltb-true 2147483647 n l)
above-32 (negsuc n) l = let y : ◌≡◌ {A = ℕ} 0 1 = cc in absurd (omega arith)

-- Turns

module _ (z : Size) (sum x : ℤ) where
  pub turn-outside : 2147483648 ≤ mag (sum +ℤ x) → turn_of z sum x ≡ Wrong
  unfolding turn_of
  turn-outside h = rw (le-ltb (mag (sum +ℤ x)) 2147483648 h)

  pub turn_inside : mag (sum +ℤ x) < 2147483648 → turn_of z sum x ≡ cond (is_limit (upper z) (lower z) x) (More (sum +ℤ x)) (Done (sum +ℤ x))
  unfolding turn_of
  turn_inside h = rw (lt-ltb (mag (sum +ℤ x)) 2147483648 h)

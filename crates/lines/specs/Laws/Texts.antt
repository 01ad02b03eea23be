-- Laws of the texts of values: digit by digit, the places of a divisor, and how long a line can be. Assumes nothing.
use Rattle.std.specs.Prelude.{Option, Some, None, ◌≡◌, refl, Bool, true, false, cond, List, [], ◌∷◌, ◌++◌, ℕ, zero, suc, ◌+◌, ◌-◌, ◌*◌, ◌/◌, ◌%◌, ◌^◌, ◌<◌, ◌≤◌, eqb, ltb, ℤ, pos, negsuc, length}
use Rattle.std.proofs.Common.{sym, ap, subst, ◌∙◌, arith, sub-one, length-append, SFits, of_z, eqb-true, eq-eqb, ne_eqb}
use Rattle.std.proofs.Math.Nat.{one-le-pow}
use Rattle.std.specs.Int.{w32}
use Rattle.text.specs.Decimal.{glyph, decimal}
use Rattle.text.specs.Laws.Decimal.{decimal-few}
use Rattle.lines.specs.Texts.{digits, places_below, places_of, fraction_text, quotient_text, magnitude_text, number_text, exponent_of, fraction_of, sign_text, scaled_of, special_text, exponent_text, finite_text, bits_text, name_text}
use Rattle.lines.specs.Lines.{line}

-- Digits

-- the last digit, after those above it
pub digits_last : (b k n : ℕ) → (k ≡ 0 → ⊥) → digits b k n ≡ digits b (k - 1) (n / b) ++ (glyph (n % b) ∷ [])
unfolding digits
digits_last b zero n h = absurd (h refl)
digits_last b (suc k) n h = rw (sub-one (suc k))

pub digits-none : (b k n : ℕ) → k ≡ 0 → digits b k n ≡ []
unfolding digits
digits-none b zero n h = refl
digits-none b (suc k) n h = absurd (omega arith)

pub digits-length : (b k n : ℕ) → length (digits b k n) ≡ k
unfolding digits
digits-length b zero n = refl
digits-length b (suc k) n = length-append (digits b k (n / b)) (glyph (n % b) ∷ []) ∙ rw (digits-length b k (n / b)) (omega arith)

pub fraction-none : (k n : ℕ) → k ≡ 0 → fraction_text k n ≡ []
fraction-none zero n h = refl
fraction-none (suc k) n h = absurd (omega arith)

pub fraction-some : (k n : ℕ) → (k ≡ 0 → ⊥) → fraction_text k n ≡ (46 ∷ []) ++ digits 10 k n
fraction-some zero n h = absurd (h refl)
fraction-some (suc k) n h = refl

fraction-few : (k n : ℕ) → length (fraction_text k n) ≤ 1 + k
fraction-few zero n = omega arith
fraction-few (suc k) n = let e = digits-length 10 (suc k) n in omega arith

-- The places of a divisor

-- a divisor with places is their power of ten
places_below-power : (m k d : ℕ) → places_below m d ≡ Some k → (d ≡ 10 ^ k) × (k < m)
unfolding places_below
places_below-power zero k d h = let z : ◌≡◌ {A = ℕ} 0 1 = cc in absurd (omega arith)
places_below-power (suc m) k d h = go (eqb d (10 ^ m)) refl (places_below-power m k d) h
  where
    go : (test : Bool) → eqb d (10 ^ m) ≡ test → (places_below m d ≡ Some k → (d ≡ 10 ^ k) × (k < m)) → cond test (Some m) (places_below m d) ≡ Some k → (d ≡ 10 ^ k) × (k < suc m)
    go true e f q = let s : m ≡ k = cc in (eqb-true d (10 ^ m) e ∙ ap (λ (i : ℕ). 10 ^ i) s, omega arith)
    go false e f q = ((f q).0, omega (arith, (f q).1))

pub places-positive : (k d : ℕ) → Some k ≡ places_of d → 1 ≤ d
unfolding places_of
places-positive k d h = subst (λ (n : ℕ). 1 ≤ n) (sym (places_below-power 10 k d (sym h)).0) (one-le-pow k 10 (omega arith))

places-few : (k d : ℕ) → places_of d ≡ Some k → k ≤ 9
unfolding places_of
places-few k d h = omega (arith, (places_below-power 10 k d h).1)

-- one power less to look at
pub places-past : (m d : ℕ) → (d ≡ 10 ^ m → ⊥) → places_below (suc m) d ≡ places_below m d
unfolding places_below
places-past m d h = simp (ne_eqb d (10 ^ m) h)

-- The bits of a number tell its sign and its size

pub number-positive : (d : ℕ) (z : ℤ) → SFits w32 z → of_z w32 z < 0x8000_0000 → number_text d z ≡ magnitude_text d (of_z w32 z)
number-positive d (pos n) f h = refl
number-positive d (negsuc n) f h = absurd (omega (arith, f.sfits))

pub number-negative : (d : ℕ) (z : ℤ) → SFits w32 z → 0x8000_0000 ≤ of_z w32 z → number_text d z ≡ (45 ∷ []) ++ magnitude_text d (0xffff_ffff - of_z w32 z + 1)
number-negative d (pos n) f h = absurd (omega (arith, f.sfits))
number-negative d (negsuc n) f h = let e : 0xffff_ffff - (0x1_0000_0000 - suc n) + 1 ≡ suc n = omega (arith, f.sfits) in rw e

-- How long a line can be

quotient-few : (p : Option ℕ) (d n : ℕ) → places_of d ≡ p → length (quotient_text p d n) ≤ 21
quotient-few (Some k) d n h =
    let a = decimal-few (n / d) in
    let b = fraction-few k n in
    let c = places-few k d h in
    simp length-append (omega arith)
quotient-few None d n h =
    let a = decimal-few n in
    let b = decimal-few d in
    simp length-append (omega arith)

pub number-few : (d : ℕ) (z : ℤ) → length (line (number_text d) z) ≤ 32
number-few d (pos n) = let h = quotient-few (places_of d) d n refl in simp length-append (omega arith)
number-few d (negsuc n) = let h = quotient-few (places_of d) d (suc n) refl in simp length-append (omega arith)

sign-few : (bits : ℕ) → length (sign_text bits) ≤ 1
sign-few bits = by (ltb bits 0x8000_0000)
  where
    by : (test : Bool) → length {A = ℕ} (cond test [] (45 ∷ [])) ≤ 1
    by true = omega arith
    by false = omega arith

exponent-few : (e : ℕ) → length (exponent_text e) ≤ 12
exponent-few e = by (ltb e 127)
  where
    by : (test : Bool) → length (cond test (112 ∷ 45 ∷ decimal (127 - e)) (112 ∷ 43 ∷ decimal (e - 127))) ≤ 12
    by true = let a = decimal-few (127 - e) in omega arith
    by false = let a = decimal-few (e - 127) in omega arith

finite-few : (e f : ℕ) → length (finite_text e f) ≤ 22
finite-few e f =
    let a = digits-length 16 6 (f * 2) in
    let b = exponent-few (scaled_of e f) in
    simp length-append (omega arith)

special-few : (bits : ℕ) → length (special_text bits) ≤ 4
special-few bits = by (eqb (fraction_of bits) 0)
  where
    by : (infinite : Bool) → length (cond infinite (sign_text bits ++ (105 ∷ 110 ∷ 102 ∷ [])) (110 ∷ 97 ∷ 110 ∷ [])) ≤ 4
    by true = let a = sign-few bits in simp length-append (omega arith)
    by false = omega arith

-- the line of a float, for a text of finite floats that has at most so many bytes
pub float-line-few : (finite : List ℕ) (few bits : ℕ) → 4 ≤ few → length finite ≤ few
    → length (cond (eqb (exponent_of bits) 255) (special_text bits) (sign_text bits ++ finite) ++ (10 ∷ [])) ≤ few + 2
float-line-few finite few bits m h = by (eqb (exponent_of bits) 255)
  where
    by : (special : Bool) → length (cond special (special_text bits) (sign_text bits ++ finite) ++ (10 ∷ [])) ≤ few + 2
    by true = let a = special-few bits in let b = length-append (special_text bits) (10 ∷ []) in omega arith
    by false =
        let a = sign-few bits in
        let b = length-append (sign_text bits) finite in
        let c = length-append (sign_text bits ++ finite) (10 ∷ []) in
        omega arith

pub bits-few : (bits : ℕ) → length (line bits_text bits) ≤ 32
bits-few bits = let h = float-line-few (finite_text (exponent_of bits) (fraction_of bits)) 22 bits (omega arith) (finite-few (exponent_of bits) (fraction_of bits)) in omega arith

name-few : (s : List ℕ) → length (name_text s) ≤ length s
unfolding name_text
name-few [] = omega arith
name-few (b ∷ s) = by (eqb b 0) (name-few s)
  where
    by : (test : Bool) → length (name_text s) ≤ length s → length (cond test [] (b ∷ name_text s)) ≤ suc (length s)
    by true h = omega arith
    by false h = omega arith

pub name-line-few : (s : List ℕ) → length (line name_text s) ≤ length s + 1
name-line-few s = let h = name-few s in simp length-append (omega arith)

-- A name, byte by byte

pub name-end : (b : ℕ) (s : List ℕ) → b ≡ 0 → name_text (b ∷ s) ≡ []
unfolding name_text
name-end b s h = simp (eq-eqb b 0 h)

pub name-byte : (b : ℕ) (s : List ℕ) → (b ≡ 0 → ⊥) → name_text (b ∷ s) ≡ b ∷ name_text s
unfolding name_text
name-byte b s h = simp (ne_eqb b 0 h)

pub name-none : name_text [] ≡ []
unfolding name_text
name-none = refl

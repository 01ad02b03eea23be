-- Laws of digits in an array: a product digit by digit, parts of the array, and its text. Assumes nothing.
use Rattle.std.specs.Prelude.{◌≡◌, refl, get_or, set, drop}
use Rattle.std.proofs.Math.Path.{sym, ap}
use Rattle.std.proofs.Common.{◌∙◌, add-mul, mul_assoc, mul-one, mul-zero, mul_right_comm, mul-le-mul, pow-suc, div-one, sub-one, length-take, take_all, take_at, length-take-le, eq-eqb, ne_eqb}
use mathlib.Core.List.{List, [], ◌∷◌, ◌++◌, append_assoc, append-nil}
use Prim.Native.Nat.{ℕ, zero, suc, ◌+◌, ◌-◌, ◌*◌, ◌/◌, ◌%◌, ◌^◌, ◌<◌, ◌≤◌}
use native.Mathlib.Omega.{arith}
use Rattle.std.proofs.Math.Nat.{pow-zero, pow-succ', div-div-eq-div-mul}
use Rattle.std.proofs.Math.Numerals.{add-one}
use Rattle.std.proofs.Math.ListN.{length, take, length-set}
use Rattle.std.proofs.Math.Seq.{drop-cons, take-suc-set, drop-set-lt, drop-length}
use Rattle.text.specs.Decimal.{glyph}
use Rattle.lines.specs.Texts.{digits}
use Rattle.lines.specs.Decimals.{places_text}
use Rattle.lines.specs.Figures.{figures, value_of, glyphs, trimmed}

-- A product

pub figures-length : (k n : ℕ) → length (figures k n) ≡ k
unfolding figures
figures-length zero n = refl
figures-length (suc k) n = ap suc (figures-length k (n / 10))

-- the lowest digit of a product with a carry, and what is left
figures-step : (k d v f c : ℕ) → figures (suc k) ((d + v * 10) * f + c) ≡ (d * f + c) % 10 ∷ figures k (v * f + (d * f + c) / 10)
unfolding figures
figures-step k d v f c =
    let a = add-mul d (v * 10) f in
    let b = mul_right_comm v 10 f in
    let p : ((d + v * 10) * f + c) % 10 ≡ (d * f + c) % 10 = omega arith in
    let q : ((d + v * 10) * f + c) / 10 ≡ v * f + (d * f + c) / 10 = omega arith in
    rw (p, q)

-- a digit and a factor of at most 10
pub product-few : (d f : ℕ) → d < 256 → f ≤ 10 → d * f ≤ 2550
product-few d f h k = let a : d ≤ 255 = omega arith in mul-le-mul {n₁ = d} {m₁ = f} {n₂ = 255} {m₂ = 10} a k

-- The digits before i are those of the product, and the carry is still to be added to the rest.
pub record Multiplied (old : List ℕ) (f more : ℕ) (row : List ℕ) (carry i : ℕ) : Type 0 where
  pub same : length row ≡ length old
  pub within : i ≤ length row
  pub small : carry < 0x100_0000
  pub product : take i row ++ figures (length row - i) (value_of (drop i row) * f + carry) ≡ figures (length old) (value_of old * f + more)

module _ {old : List ℕ} {f more : ℕ} where
  pub multiplied-start : more < 0x100_0000 → Multiplied old f more old more 0
  multiplied-start h = record { same = refl; within = omega arith; small = h; product = let e : length old - 0 ≡ length old = omega arith in rw e }

  module _ {row : List ℕ} {carry i : ℕ} (g : Multiplied old f more row carry i) where
    pub multiplied-more : (d : ℕ) → f ≤ 10 → d < 256 → i < length row → d ≡ get_or row i 0
        → Multiplied old f more (set row i ((d * f + carry) % 10)) ((d * f + carry) / 10) (i + 1)
    unfolding value_of
    multiplied-more d k h l e =
        let b = (d * f + carry) % 10 in
        let few = product-few d f h k in
        let n : length row - i ≡ suc (length row - suc i) = omega arith in
        let q : i < suc i = omega arith in
        record {
          same = length-set row i b ∙ g.same;
          within = rw (length-set row i b) (omega arith);
          small = omega (arith, g.small);
          product =
              rw (length-set row i b, add-one i, take-suc-set row i b l, drop-set-lt (suc i) row i b q) (append_assoc (take i row) (b ∷ []) _
              ∙ ap (λ (s : List ℕ). take i row ++ s) (sym (figures-step (length row - suc i) d (value_of (drop (suc i) row)) f carry) ∙ rw (n, drop-cons row i 0 l, e))
              ∙ g.product);
        }

    pub multiplied-done : length row ≤ i → row ≡ figures (length old) (value_of old * f + more)
    unfolding figures
    multiplied-done h =
        let e : length row - i ≡ 0 = omega arith in
        sym (take_all i row h) ∙ sym (append-nil (take i row)) ∙ rw e at g.product

-- what is left out above the array's end changes no digit in it
pub figures-again : (k n f c : ℕ) → figures k (value_of (figures k n) * f + c) ≡ figures k (n * f + c)
unfolding figures value_of
figures-again zero n f c = refl
figures-again (suc k) n f c =
    let e : n % 10 + n / 10 * 10 ≡ n = omega arith in
    figures-step k (n % 10) (value_of (figures k (n / 10))) f c
    ∙ ap (λ (l : List ℕ). (n % 10 * f + c) % 10 ∷ l) (figures-again k (n / 10) f ((n % 10 * f + c) / 10))
    ∙ sym (figures-step k (n % 10) (n / 10) f c)
    ∙ ap (λ (m : ℕ). figures (suc k) (m * f + c)) e

-- a power, factor by factor
pub power-start : (row : List ℕ) (k v m f : ℕ) → row ≡ figures k (v * 0 + m) → row ≡ figures (length row) (m * f ^ 0)
power-start row k v m f e =
    let n : v * 0 + m ≡ m * f ^ 0 = rw (mul-zero v, pow-zero f, mul-one m) (omega arith) in
    let l : length row ≡ k = ap length e ∙ figures-length k (v * 0 + m) in
    rw (l, ← n) e

pub power-more : (k m f i : ℕ) (row : List ℕ) → row ≡ figures k (m * f ^ i) → figures (length row) (value_of row * f + 0) ≡ figures k (m * f ^ (i + 1))
power-more k m f i row e =
    let a = mul_assoc m (f ^ i) f in
    let b : m * f ^ i * f + 0 ≡ m * (f ^ i * f) = omega arith in
    rw (e, figures-length k (m * f ^ i), figures-again k (m * f ^ i) f 0, add-one i, pow-suc f i, b)

-- Parts of an array

pub take-figures : (j k n : ℕ) → j ≤ k → take j (figures k n) ≡ figures j n
unfolding figures
take-figures zero k n h = refl
take-figures (suc j) zero n h = absurd (omega arith)
take-figures (suc j) (suc k) n h = ap (λ (l : List ℕ). n % 10 ∷ l) (take-figures j k (n / 10) (omega arith))

-- the part of an array that was written
module _ (end n : ℕ) (old new rest : List ℕ) (h : end ≤ length old) (e : new ≡ figures (length (take end old)) n) where
  pub prefix-figures : take end (new ++ rest) ≡ figures end n
  prefix-figures =
      let f : new ≡ figures end n = e ∙ ap (λ (k : ℕ). figures k n) (length-take-le end old h) in
      take_at new rest end (ap length f ∙ figures-length end n) ∙ f

  pub prefix-length : length (take end (new ++ rest)) ≡ end
  prefix-length = ap length prefix-figures ∙ figures-length end n

  pub prefix-within : end ≤ length (new ++ rest)
  prefix-within = let l = length-take end (new ++ rest) in omega (arith, prefix-length)

pub drop-figures : (j k n : ℕ) → drop j (figures k n) ≡ figures (k - j) (n / 10 ^ j)
unfolding figures
drop-figures zero k n = let e : k - 0 ≡ k = omega arith in rw (e, pow-zero 10, div-one n)
drop-figures (suc j) zero n = let e : 0 - suc j ≡ 0 = omega arith in rw e
drop-figures (suc j) (suc k) n =
    let e : suc k - suc j ≡ k - j = omega arith in
    rw (e, pow-succ' 10 j, ← div-div-eq-div-mul n 10 (10 ^ j)) (drop-figures j k (n / 10))

pub figures-at : (i k n : ℕ) → i < k → get_or (figures k n) i 0 ≡ n / 10 ^ i % 10
unfolding figures
figures-at i zero n h = absurd (omega arith)
figures-at zero (suc k) n h = rw (pow-zero 10, div-one n)
figures-at (suc i) (suc k) n h = rw (pow-succ' 10 i, ← div-div-eq-div-mul n 10 (10 ^ i)) (figures-at i k (n / 10) (omega arith))

-- An array as text

pub glyphs-figures : (k n : ℕ) → glyphs (figures k n) ≡ digits 10 k n
unfolding figures glyphs digits
glyphs-figures zero n = refl
glyphs-figures (suc k) n = rw (glyphs-figures k (n / 10))

pub trimmed-figures : (k n : ℕ) → trimmed (figures k n) ≡ places_text k n
unfolding figures trimmed places_text
trimmed-figures zero n = refl
trimmed-figures (suc k) n = rw (trimmed-figures k (n / 10), glyphs-figures (suc k) n)

pub glyphs-none : glyphs [] ≡ []
unfolding glyphs
glyphs-none = refl

-- a digit lower
pub glyphs-more : (s : List ℕ) (i : ℕ) → 0 < i → i ≤ length s → glyphs (drop (i - 1) s) ≡ glyphs (drop i s) ++ (glyph (get_or s (i - 1) 0) ∷ [])
unfolding glyphs
glyphs-more s zero p h = absurd (omega arith)
glyphs-more s (suc i) p h = rw (sub-one (suc i), drop-cons s i 0 h)

pub trimmed-zero : (s : List ℕ) (i : ℕ) → i < length s → get_or s i 0 ≡ 0 → trimmed (drop i s) ≡ trimmed (drop (i + 1) s)
unfolding trimmed
trimmed-zero s i h z = rw (drop-cons s i 0 h, add-one i, eq-eqb (get_or s i 0) 0 z)

pub trimmed-digit : (s : List ℕ) (i : ℕ) → i < length s → (get_or s i 0 ≡ 0 → ⊥) → trimmed (drop i s) ≡ glyphs (drop i s)
unfolding trimmed
trimmed-digit s i h z = rw (drop-cons s i 0 h, ne_eqb (get_or s i 0) 0 z)

pub trimmed-none : (s : List ℕ) → trimmed (drop (length s) s) ≡ 48 ∷ []
unfolding trimmed
trimmed-none s = rw (drop-length s)

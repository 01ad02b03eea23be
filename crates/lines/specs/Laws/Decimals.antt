-- Laws of floats in decimal: the digits of a number in an array, that those of a float have room there, that its text says its value, and how
-- long its line can be. Assumes nothing.
use Rattle.std.specs.Prelude.{◌≡◌, refl, Bool, true, false, cond, List, [], ◌∷◌, ◌++◌, ℕ, zero, suc, ◌+◌, ◌-◌, ◌*◌, ◌/◌, ◌%◌, ◌^◌, ◌<◌, ◌≤◌, eqb, ltb, length, get_or, take, drop}
use Rattle.std.proofs.Common.{sym, ap, subst, ◌∙◌, append_assoc, arith, pow-suc, pos_of_ne-zero, mul-le-mul, mul-one, mul_assoc, div-lt_iff_lt-mul, le-div_iff_mul-le, div-add-mod', mod-lt, mod-eq_of_lt, mul_right_comm, lt_of_lt_of_le, lt_of_le_of_lt, sub-one, length-append, lt-ltb, le-ltb, ltb-true, eqb-true}
use Rattle.std.proofs.Math.Nat.{pow-zero, one-le-pow, pow-le-pow_right, add-mul-mod_self_right, mul-mul-mul_comm, eq_of_mul-eq-mul_right}
use Rattle.std.proofs.lemmas.Bool.{eqb-false}
use Rattle.text.specs.Decimal.{glyph, decimal_in, value_from}
use Rattle.text.specs.Laws.Decimal.{glyph-digit, decimal-room, decimal_in-value, decimal_in-few}
use Rattle.lines.specs.Texts.{digits, exponent_of, fraction_of}
use Rattle.lines.specs.Decimals.{places_text, scaled_text, binary_text, exact_text, float_text, float_in}
use Rattle.lines.specs.Figures.{figures, glyphs, trimmed}
use Rattle.lines.specs.Laws.Figures.{figures-length, figures-at, take-figures, drop-figures, glyphs-figures, trimmed-figures}
use Rattle.lines.specs.Laws.Texts.{digits-length, float-line-few, bits-few}
use Rattle.lines.specs.Lines.{line}
use Rattle.lines.specs.declared.Notation.{Notation}

-- The digits of a whole number

-- a number that is not below a power of ten has all its digits
decimal-full : (k n : ℕ) → (0 < k → 10 ^ k ≤ n) → decimal_in k n ≡ digits 10 (suc k) n
unfolding decimal_in digits
decimal-full zero n h = ap (λ (d : ℕ). d ∷ []) (sym (glyph-digit (n % 10) (omega arith)))
decimal-full (suc k) n h =
    let a = h (omega arith) in
    let e = pow-suc 10 k in
    let p = one-le-pow k 10 (omega arith) in
    let t : 10 ≤ n = omega arith in
    let r : 10 ^ k ≤ n / 10 = omega arith in
    simp (le-ltb n 10 t) (rw (decimal-full k (n / 10) (λ z. r), glyph-digit (n % 10) (omega arith)))

-- The digits of a number before i say it: those from i on are 0.
pub record Counted (row : List ℕ) (i : ℕ) : Type 0 where
  pub some : 1 ≤ i
  pub within : i ≤ length row
  pub text : (n : ℕ) → row ≡ figures (length row) n → n < 10 ^ length row → (n < 10 ^ i) × (decimal_in (length row - 1) n ≡ decimal_in (i - 1) n)

pub counted_start : (row : List ℕ) → 1 ≤ length row → Counted row (length row)
counted_start row h = record { some = h; within = omega arith; text = λ n e b. (b, refl) }

-- a digit of a row
row_at : (row : List ℕ) (n i : ℕ) → row ≡ figures (length row) n → i < length row → get_or row i 0 ≡ n / 10 ^ i % 10
row_at row n i e h = ap (λ (s : List ℕ). get_or s i 0) e ∙ figures-at i (length row) n h

pub counted-more : {row : List ℕ} (i : ℕ) → Counted row i → 1 < i → get_or row (i - 1) 0 ≡ 0 → Counted row (i - 1)
counted-more zero g h z = absurd (omega arith)
counted-more (suc zero) g h z = absurd (omega arith)
counted-more {row} (suc (suc k)) g h z =
    let p : suc k ≡ suc (suc k) - 1 = omega arith in
    subst (λ (i : ℕ). Counted row i) p (record { some = omega arith; within = omega (arith, g.within); text = go })
  where
    go : (n : ℕ) → row ≡ figures (length row) n → n < 10 ^ length row → (n < 10 ^ suc k) × (decimal_in (length row - 1) n ≡ decimal_in (suc k - 1) n)
    go n e b =
        let y : get_or row (suc k) 0 ≡ 0 = rw (sub-one (suc (suc k))) at z in
        let t = g.text n e b in
        let p = one-le-pow (suc k) 10 (omega arith) in
        let a = row_at row n (suc k) e (omega (arith, g.within)) in
        let s = pow-suc 10 (suc k) in
        let q = (div-lt_iff_lt-mul {k = 10 ^ suc k} {x = n} {y = 10} p).1 (omega (arith, t.0)) in
        let r = (div-lt_iff_lt-mul {k = 10 ^ suc k} {x = n} {y = 1} p).0 (omega arith) in
        let l : n < 10 ^ suc k = omega arith in
        (l, rw (sub-one (suc k)) (rw (sub-one (suc (suc k))) at t.1 ∙ decimal-room k n l))

-- the digits of a number that has so many
row-text : (row : List ℕ) (n k : ℕ) → row ≡ figures (length row) n → suc k ≤ length row → (0 < k → 10 ^ k ≤ n) → decimal_in k n ≡ glyphs (take (suc k) row)
row-text row n k e h f =
    decimal-full k n f ∙ sym (glyphs-figures (suc k) n) ∙ ap glyphs (sym (ap (take (suc k)) e ∙ take-figures (suc k) (length row) n h))

pub counted-digit : {row : List ℕ} (i n : ℕ) → Counted row i → (get_or row (i - 1) 0 ≡ 0 → ⊥) → row ≡ figures (length row) n → n < 10 ^ length row → decimal_in (length row - 1) n ≡ glyphs (take i row)
counted-digit zero n g z e b = absurd (omega (arith, g.some))
counted-digit {row} (suc k) n g z e b =
    let p = one-le-pow k 10 (omega arith) in
    let a = row_at row n k e g.within in
    let q : 0 < get_or row k 0 = rw (sub-one (suc k)) at (pos_of_ne-zero z) in
    let r = (le-div_iff_mul-le {k = 10 ^ k} {x = 1} {y = n} p).0 (omega arith) in
    let l : 10 ^ k ≤ n = omega arith in
    rw (sub-one (suc k)) at (g.text n e b).1 ∙ row-text row n k e g.within (λ _. l)

pub counted-one : {row : List ℕ} (i n : ℕ) → Counted row i → i ≤ 1 → row ≡ figures (length row) n → n < 10 ^ length row → decimal_in (length row - 1) n ≡ glyphs (take i row)
counted-one zero n g h e b = absurd (omega (arith, g.some))
counted-one {row} (suc zero) n g h e b = (g.text n e b).1 ∙ row-text row n 0 e g.within (λ l. absurd (omega arith))
counted-one (suc (suc k)) n g h e b = absurd (omega arith)

-- The text of a number over a power of ten, from its digits

ten-power : (k j : ℕ) → 10 ^ (k + j) ≡ 10 ^ j * 10 ^ k
ten-power zero j = let e : 0 + j ≡ j = omega arith in rw (e, pow-zero 10, mul-one (10 ^ j))
ten-power (suc k) j =
    let e : suc k + j ≡ suc (k + j) = omega arith in
    rw (e, pow-suc 10 (k + j), ten-power k j, pow-suc 10 k, mul_assoc (10 ^ j) (10 ^ k) 10)

pub scaled-text : (row : List ℕ) (k t n : ℕ) → row ≡ figures (k + 39) n → n < 10 ^ (k + 39)
    → ((x : ℕ) → drop k row ≡ figures (length (drop k row)) x → x < 10 ^ length (drop k row) → decimal_in (length (drop k row) - 1) x ≡ glyphs (take t (drop k row)))
    → scaled_text k n ≡ (glyphs (take t (drop k row)) ++ (46 ∷ [])) ++ trimmed (take k row)
unfolding scaled_text
scaled-text row k t n e b whole =
    let l : k + 39 - k ≡ 39 = omega arith in
    let m : k ≤ k + 39 = omega arith in
    let d : drop k row ≡ figures 39 (n / 10 ^ k) = rw e (drop-figures k (k + 39) n ∙ rw l) in
    let h : length (drop k row) ≡ 39 = ap length d ∙ figures-length 39 (n / 10 ^ k) in
    let q = (div-lt_iff_lt-mul {k = 10 ^ k} {x = n} {y = 10 ^ 39} (one-le-pow k 10 (omega arith))).1 (rw (← ten-power k 39) b) in
    let w : decimal_in 38 (n / 10 ^ k) ≡ glyphs (take t (drop k row)) = rw h at (whole (n / 10 ^ k) (rw h d) (rw h q)) in
    let p : places_text k n ≡ trimmed (take k row) = sym (trimmed-figures k n) ∙ ap trimmed (sym (ap (take k) e ∙ take-figures k (k + 39) n m)) in
    rw (w, p) (sym (append_assoc (glyphs (take t (drop k row))) (46 ∷ []) (trimmed (take k row))))

-- The digits of a float have room

five-below : (m k : ℕ) → m < 0x100_0000 → m * 5 ^ k < 10 ^ (k + 8)
five-below m zero h = rw (pow-zero 5, mul-one m) (omega arith)
five-below m (suc k) h =
    let e : suc k + 8 ≡ suc (k + 8) = omega arith in
    let a = five-below m k h in
    rw (e, pow-suc 10 (k + 8), pow-suc 5 k, ← mul_assoc m (5 ^ k) 5) (omega arith)

pub five-room : (m k : ℕ) → m < 0x100_0000 → m * 5 ^ k < 10 ^ (k + 39)
five-room m k h = lt_of_lt_of_le (five-below m k h) (pow-le-pow_right {n = 10} (omega arith) {i = k + 8} {j = k + 39} (omega arith))

pub two-room : (m k : ℕ) → m < 0x100_0000 → k ≤ 104 → m * 2 ^ k < 10 ^ 39
two-room m k h l =
    let a : m ≤ 0xff_ffff = omega arith in
    lt_of_le_of_lt (mul-le-mul {n₁ = m} {m₁ = 2 ^ k} {n₂ = 0xff_ffff} {m₂ = 2 ^ 104} a (pow-le-pow_right {n = 2} (omega arith) l)) (ltb-true (0xff_ffff * 2 ^ 104) (10 ^ 39) refl)

pub binary-small : (m e : ℕ) → e < 150 → binary_text m e ≡ scaled_text (150 - e) (m * 5 ^ (150 - e))
unfolding binary_text
binary-small m e h = simp (lt-ltb e 150 h)

pub binary-large : (m e : ℕ) → 150 ≤ e → binary_text m e ≡ scaled_text 0 (m * 2 ^ (e - 150))
unfolding binary_text
binary-large m e h = simp (le-ltb e 150 h)

-- The text says the number

value-more : (s t : List ℕ) (v : ℕ) → value_from v (s ++ t) ≡ value_from (value_from v s) t
unfolding value_from
value-more [] t v = refl
value-more (b ∷ s) t v = value-more s t (v * 10 + (b - 48))

-- a remainder with a digit more
mod-ten : (p n : ℕ) → 0 < p → n % (p * 10) ≡ n / 10 % p * 10 + n % 10
mod-ten p n h =
    let a = div-add-mod' (n / 10) p in
    let b = mul_assoc (n / 10 / p) p 10 in
    let r = mod-lt (n / 10) h in
    let e : n ≡ n / 10 % p * 10 + n % 10 + n / 10 / p * (p * 10) = omega arith in
    let l : n / 10 % p * 10 + n % 10 < p * 10 = omega arith in
    ap (λ (m : ℕ). m % (p * 10)) e ∙ add-mul-mod_self_right (n / 10 % p * 10 + n % 10) (n / 10 / p) (p * 10) ∙ mod-eq_of_lt l

digits-say : (k n v : ℕ) → value_from v (digits 10 k n) ≡ v * 10 ^ k + n % 10 ^ k
unfolding digits value_from
digits-say zero n v = omega arith
digits-say (suc k) n v =
    let e = digits-say k (n / 10) v in
    let g = glyph-digit (n % 10) (omega arith) in
    let p = one-le-pow k 10 (omega arith) in
    let a = mul_assoc v (10 ^ k) 10 in
    rw (value-more (digits 10 k (n / 10)) (glyph (n % 10) ∷ []) v, e, g, pow-suc 10 k, mod-ten (10 ^ k) n p) (omega arith)

places-say : (k n v : ℕ) → value_from v (places_text k n) * 10 ^ k ≡ (v * 10 ^ k + n % 10 ^ k) * 10 ^ length (places_text k n)
unfolding places_text value_from
places-say zero n v = omega arith
places-say (suc k) n v = by (eqb (n % 10) 0) refl (places-say k (n / 10) v)
  where
    by : (test : Bool) → eqb (n % 10) 0 ≡ test → value_from v (places_text k (n / 10)) * 10 ^ k ≡ (v * 10 ^ k + n / 10 % 10 ^ k) * 10 ^ length (places_text k (n / 10))
        → value_from v (cond test (places_text k (n / 10)) (digits 10 (suc k) n)) * 10 ^ suc k ≡ (v * 10 ^ suc k + n % 10 ^ suc k) * 10 ^ length (cond test (places_text k (n / 10)) (digits 10 (suc k) n))
    by true t i =
        let z = eqb-true (n % 10) 0 t in
        let m = mod-ten (10 ^ k) n (one-le-pow k 10 (omega arith)) in
        let a = mul_assoc v (10 ^ k) 10 in
        let s : v * (10 ^ k * 10) + n % (10 ^ k * 10) ≡ (v * 10 ^ k + n / 10 % 10 ^ k) * 10 = omega arith in
        let b = mul_assoc (value_from v (places_text k (n / 10))) (10 ^ k) 10 in
        let c = mul_right_comm (v * 10 ^ k + n / 10 % 10 ^ k) 10 (10 ^ length (places_text k (n / 10))) in
        rw (pow-suc 10 k, s, ← b, i) (sym c)
    by false t i = rw (digits-say (suc k) n v, digits-length 10 (suc k) n)

-- the digits of the text, over ten to as many of them as stand after the point, are n over 10 ^ k
pub scaled-says : (k n : ℕ) → n < 10 ^ (k + 39) → value_from 0 (decimal_in 38 (n / 10 ^ k) ++ places_text k n) * 10 ^ k ≡ n * 10 ^ length (places_text k n)
scaled-says k n b =
    let q = (div-lt_iff_lt-mul {k = 10 ^ k} {x = n} {y = 10 ^ 39} (one-le-pow k 10 (omega arith))).1 (rw (← ten-power k 39) b) in
    rw (value-more (decimal_in 38 (n / 10 ^ k)) (places_text k n) 0, decimal_in-value 38 (n / 10 ^ k) q, places-say k n (n / 10 ^ k), div-add-mod' n (10 ^ k))

ten-parts : (k : ℕ) → 10 ^ k ≡ 2 ^ k * 5 ^ k
ten-parts zero = refl
ten-parts (suc k) = rw (pow-suc 10 k, pow-suc 2 k, pow-suc 5 k, ten-parts k) (sym (mul-mul-mul_comm (2 ^ k) 2 (5 ^ k) 5))

-- and so, of a float below the exponent 150, m over 2 ^ k
pub binary-says : (m k : ℕ) → m < 0x100_0000
    → value_from 0 (decimal_in 38 (m * 5 ^ k / 10 ^ k) ++ places_text k (m * 5 ^ k)) * 2 ^ k ≡ m * 10 ^ length (places_text k (m * 5 ^ k))
binary-says m k h = go (value_from 0 (decimal_in 38 (m * 5 ^ k / 10 ^ k) ++ places_text k (m * 5 ^ k))) (10 ^ length (places_text k (m * 5 ^ k))) (scaled-says k (m * 5 ^ k) (five-room m k h))
  where
    go : (v t : ℕ) → v * 10 ^ k ≡ m * 5 ^ k * t → v * 2 ^ k ≡ m * t
    go v t e =
        eq_of_mul-eq-mul_right (5 ^ k) (one-le-pow k 5 (omega arith)) (v * 2 ^ k) (m * t)
        (mul_assoc v (2 ^ k) (5 ^ k) ∙ ap (λ (n : ℕ). v * n) (sym (ten-parts k)) ∙ e ∙ mul_right_comm m (5 ^ k) t)

-- How long a line can be

places-few : (k n : ℕ) → length (places_text k n) ≤ k + 1
unfolding places_text
places-few zero n = omega arith
places-few (suc k) n = by (eqb (n % 10) 0) (places-few k (n / 10)) (digits-length 10 (suc k) n)
  where
    by : (test : Bool) → length (places_text k (n / 10)) ≤ k + 1 → length (digits 10 (suc k) n) ≡ suc k → length (cond test (places_text k (n / 10)) (digits 10 (suc k) n)) ≤ suc k + 1
    by true h e = omega arith
    by false h e = omega arith

scaled-few : (k n : ℕ) → k ≤ 149 → length (scaled_text k n) ≤ 190
unfolding scaled_text
scaled-few k n h =
    let a = decimal_in-few 38 (n / 10 ^ k) in
    let b = places-few k n in
    let c = length-append (decimal_in 38 (n / 10 ^ k)) (46 ∷ places_text k n) in
    omega arith

binary-few : (m e : ℕ) → (e ≡ 0 → ⊥) → length (binary_text m e) ≤ 190
unfolding binary_text
binary-few m e z = by (ltb e 150) (scaled-few (150 - e) (m * 5 ^ (150 - e)) (omega (arith, pos_of_ne-zero z))) (scaled-few 0 (m * 2 ^ (e - 150)) (omega arith))
  where
    by : (test : Bool) → length (scaled_text (150 - e) (m * 5 ^ (150 - e))) ≤ 190 → length (scaled_text 0 (m * 2 ^ (e - 150))) ≤ 190
        → length (cond test (scaled_text (150 - e) (m * 5 ^ (150 - e))) (scaled_text 0 (m * 2 ^ (e - 150)))) ≤ 190
    by true h k = h
    by false h k = k

exact-few : (e f : ℕ) → length (exact_text e f) ≤ 190
exact-few e f = by (eqb e 0) refl
  where
    by : (test : Bool) → eqb e 0 ≡ test → length (cond test (binary_text f 1) (binary_text (0x80_0000 + f) e)) ≤ 190
    by true t = binary-few f 1 (λ z. omega arith)
    by false t = binary-few (0x80_0000 + f) e (eqb-false e 0 t)

float-few : (bits : ℕ) → length (line float_text bits) ≤ 192
float-few bits = let h = float-line-few (exact_text (exponent_of bits) (fraction_of bits)) 190 bits (omega arith) (exact-few (exponent_of bits) (fraction_of bits)) in omega arith

pub notation-few : (n : Notation) (bits : ℕ) → length (line (float_in n) bits) ≤ 192
unfolding float_in
notation-few Notation.Decimal bits = float-few bits
notation-few Notation.Hexadecimal bits = let h = bits-few bits in omega arith

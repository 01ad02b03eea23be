-- The numbers at the ends of lines: one byte at a time, and a line. -- Assumes nothing.
use Rattle.std.specs.Prelude.{◌≡◌, refl, Bool, true, false, ◌&&◌, List, [], ◌∷◌, ◌++◌, ℕ, zero, suc, ◌+◌, ◌*◌, ◌-◌, ◌/◌, ◌%◌, ◌<◌, ◌≤◌, ltb}
use Rattle.std.proofs.Common.{ap, ◌∙◌, append_assoc, arith, ne_eqb, le-leb, ltb-true, ltb-false}
use Rattle.numbers.specs.Laws.Tests.{and_left, and_right}
use Rattle.std.proofs.lemmas.Bool.{lt-leb}
use Rattle.text.specs.Decimal.{glyph, decimal}
use Rattle.text.specs.Laws.Decimal.{glyph-digit, decimal-one, decimal-more}
use Rattle.receipt.specs.Receipt.{line}
use Rattle.receipt.specs.Reading.{with_byte, line_numbers}

-- one byte more: a digit, where there is room for it, and a byte above the digits

byte-digit : (n b : ℕ) → 48 ≤ b → b ≤ 57 → n < 100000000 → with_byte n b ≡ n * 10 + (b - 48)
byte-digit n b l h f = rw (le-leb 48 b l, le-leb b 57 h) (omega arith)

byte_high : (n b : ℕ) → 57 < b → n ≡ with_byte n b
byte_high n b h = rw (le-leb 48 b (omega arith), lt-leb b 57 h)

-- a line is read as its number

-- every byte of a name is above the digits
abbrev pub plain : List ℕ → Bool
plain [] = true
plain (b ∷ bs) = ltb 57 b && plain bs

numbers-other : (b n : ℕ) (rest : List ℕ) → 57 < b → line_numbers (b ∷ rest) n ≡ line_numbers rest n
unfolding line_numbers
numbers-other b n rest h = rw (ne_eqb b 10 (λ e. omega arith), ← byte_high n b h)

numbers-plain : (bs rest : List ℕ) (n : ℕ) → plain bs ≡ true → line_numbers (bs ++ rest) n ≡ line_numbers rest n
numbers-plain [] rest n h = refl
numbers-plain (b ∷ bs) rest n h = numbers-other b n (bs ++ rest) (ltb-true 57 b (and_left (ltb 57 b) (plain bs) h)) ∙ numbers-plain bs rest n (and_right (ltb 57 b) (plain bs) h)

numbers-digit : (d n : ℕ) (rest : List ℕ) → d < 10 → n < 100000000 → line_numbers (glyph d ∷ rest) n ≡ line_numbers rest (n * 10 + d)
unfolding line_numbers
numbers-digit d n rest h f =
    let e : n * 10 + (48 + d - 48) ≡ n * 10 + d = omega arith in
    rw (glyph-digit d h, ne_eqb (48 + d) 10 (λ z. omega arith), byte-digit n (48 + d) (omega arith) (omega arith) f, e)

numbers-one : (n : ℕ) (rest : List ℕ) → n < 10 → line_numbers (decimal n ++ rest) 0 ≡ line_numbers rest n
numbers-one n rest h =
    let e : 0 * 10 + n ≡ n = omega arith in
    ap (λ (ds : List ℕ). line_numbers (ds ++ rest) 0) (decimal-one n h) ∙ numbers-digit n 0 rest h (omega arith) ∙ ap (line_numbers rest) e

-- by the number of a tenth, which is smaller
numbers_more : (n : ℕ) (rest : List ℕ) → 10 ≤ n → n < 1000000000 → line_numbers (decimal (n / 10) ++ (glyph (n % 10) ∷ rest)) 0 ≡ line_numbers (glyph (n % 10) ∷ rest) (n / 10)
    → line_numbers (decimal n ++ rest) 0 ≡ line_numbers rest n
numbers_more n rest h f q =
    let e : n / 10 * 10 + n % 10 ≡ n = omega arith in
    ap (λ (ds : List ℕ). line_numbers (ds ++ rest) 0) (decimal-more n h (omega arith))
    ∙ ap (λ (bs : List ℕ). line_numbers bs 0) (append_assoc (decimal (n / 10)) (glyph (n % 10) ∷ []) rest)
    ∙ q
    ∙ numbers-digit (n % 10) (n / 10) rest (omega arith) (omega arith)
    ∙ ap (line_numbers rest) e

numbers-digits : (steps n : ℕ) (rest : List ℕ) → n ≤ steps → n < 1000000000 → line_numbers (decimal n ++ rest) 0 ≡ line_numbers rest n
numbers-digits zero n rest h f = numbers-one n rest (omega arith)
numbers-digits (suc steps) n rest h f =
    go (ltb n 10) refl (λ l. numbers-digits steps (n / 10) (glyph (n % 10) ∷ rest) (omega arith) (omega arith))
  where
    go : (t : Bool) → ltb n 10 ≡ t → (10 ≤ n → line_numbers (decimal (n / 10) ++ (glyph (n % 10) ∷ rest)) 0 ≡ line_numbers (glyph (n % 10) ∷ rest) (n / 10))
        → line_numbers (decimal n ++ rest) 0 ≡ line_numbers rest n
    go true e q = numbers-one n rest (ltb-true n 10 e)
    go false e q = let l : 10 ≤ n = ltb-false n 10 e in numbers_more n rest l f (q l)

numbers-feed : (n : ℕ) (rest : List ℕ) → line_numbers (0x0a ∷ rest) n ≡ n ∷ line_numbers rest 0
unfolding line_numbers
numbers-feed n rest = refl

pub numbers-line : (name rest : List ℕ) (n : ℕ) → plain name ≡ true → n < 1000000000 → line_numbers (line name n ++ rest) 0 ≡ n ∷ line_numbers rest 0
unfolding line
numbers-line name rest n h f =
    let e : line name n ++ rest ≡ name ++ (0x3d ∷ (decimal n ++ (0x0a ∷ rest))) = simp append_assoc in
    ap (λ (bs : List ℕ). line_numbers bs 0) e
    ∙ numbers-plain name (0x3d ∷ (decimal n ++ (0x0a ∷ rest))) 0 h
    ∙ numbers-other 0x3d 0 (decimal n ++ (0x0a ∷ rest)) (omega arith)
    ∙ numbers-digits n n (0x0a ∷ rest) (omega arith) f
    ∙ numbers-feed n rest

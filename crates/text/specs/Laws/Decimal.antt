-- Laws of numbers in decimal: digit by digit, how many there are, and a word read digit by digit. Assumes nothing.
use Rattle.std.specs.Prelude.{◌≡◌, refl, Option, Some, None, Bool, true, false, cond, List, [], ◌∷◌, ◌++◌, ℕ, zero, suc, ◌+◌, ◌-◌, ◌*◌, ◌/◌, ◌%◌, ◌^◌, ◌<◌, ◌≤◌, ltb, leb, length}
use Rattle.std.proofs.Common.{sym, ap, ◌∙◌, arith, pow-suc, length-append, lt-ltb, le-ltb, le-leb, leb-true, leb-false}
use Rattle.std.proofs.lemmas.Bool.{lt-leb}
use Rattle.text.specs.Decimal.{glyph, decimal_in, decimal, is_digit, all_digits, value_from, most, number_in}

-- a decimal digit is one of base 16
pub glyph-digit : (n : ℕ) → n < 10 → glyph n ≡ 48 + n
glyph-digit n h = let e : n % 16 ≡ n = omega arith in rw e (simp (lt-ltb n 10 h))

-- one digit
pub decimal-one : (n : ℕ) → n < 10 → decimal n ≡ glyph n ∷ []
unfolding decimal decimal_in
decimal-one n h = simp (lt-ltb n 10 h) (ap (λ (d : ℕ). d ∷ []) (sym (glyph-digit n h)))

-- more room changes nothing
pub decimal-room : (k n : ℕ) → n < 10 ^ suc k → decimal_in (suc k) n ≡ decimal_in k n
unfolding decimal_in
decimal-room zero n h = let e : 48 + n ≡ 48 + n % 10 = omega arith in simp (lt-ltb n 10 h) (ap (λ (d : ℕ). d ∷ []) e)
decimal-room (suc k) n h =
    let e = pow-suc 10 (suc k) in
    ap (λ (l : List ℕ). cond (ltb n 10) ((48 + n) ∷ []) (l ++ ((48 + n % 10) ∷ []))) (decimal-room k (n / 10) (omega arith))

-- the last digit, after those above it
decimal-last : (k n : ℕ) → 10 ≤ n → n < 10 ^ suc k → decimal_in k n ≡ decimal_in k (n / 10) ++ ((48 + n % 10) ∷ [])
unfolding decimal_in
decimal-last zero n h r = absurd (omega arith)
decimal-last (suc k) n h r =
    let e = pow-suc 10 (suc k) in
    simp (le-ltb n 10 h) (ap (λ (l : List ℕ). l ++ ((48 + n % 10) ∷ [])) (sym (decimal-room k (n / 10) (omega arith))))

pub decimal-more : (n : ℕ) → 10 ≤ n → n < 10000000000 → decimal n ≡ decimal (n / 10) ++ (glyph (n % 10) ∷ [])
unfolding decimal
decimal-more n h r =
    decimal-last 9 n h r ∙ ap (λ (d : ℕ). decimal_in 9 (n / 10) ++ (d ∷ [])) (sym (glyph-digit (n % 10) (omega arith)))

-- a digit after those of a number other than 0
pub decimal_digit : (n b : ℕ) → 1 ≤ n → n ≤ 99999999 → 48 ≤ b → b ≤ 57 → decimal (n * 10 + (b - 48)) ≡ decimal n ++ (b ∷ [])
decimal_digit n b l h p q =
    let m : ℕ = n * 10 + (b - 48) in
    let tenth : (n * 10 + (b - 48)) / 10 ≡ n = omega arith in
    let last : (n * 10 + (b - 48)) % 10 ≡ b - 48 = omega arith in
    let digit : 48 + (b - 48) ≡ b = omega arith in
    decimal-more (n * 10 + (b - 48)) (omega arith) (omega arith)
    ∙ rw (tenth, last, glyph-digit (b - 48) (omega arith), digit)

-- a digit more at the end
value-last : (s : List ℕ) (n d : ℕ) → value_from n (s ++ (d ∷ [])) ≡ value_from n s * 10 + (d - 48)
unfolding value_from
value-last [] n d = refl
value-last (b ∷ s) n d = value-last s (n * 10 + (b - 48)) d

pub decimal_in-value : (k n : ℕ) → n < 10 ^ suc k → value_from 0 (decimal_in k n) ≡ n
unfolding decimal_in value_from
decimal_in-value zero n h = omega arith
decimal_in-value (suc k) n h =
    let e = pow-suc 10 (suc k) in
    by (ltb n 10) refl (decimal_in-value k (n / 10) (omega arith))
  where
    by : (test : Bool) → ltb n 10 ≡ test → value_from 0 (decimal_in k (n / 10)) ≡ n / 10 → value_from 0 (cond test ((48 + n) ∷ []) (decimal_in k (n / 10) ++ ((48 + n % 10) ∷ []))) ≡ n
    by true t i = omega arith
    by false t i = rw (value-last (decimal_in k (n / 10)) 0 (48 + n % 10), i) (omega arith)

-- a number in decimal says that number
pub decimal-value : (n : ℕ) → n < 10000000000 → value_from 0 (decimal n) ≡ n
unfolding decimal
decimal-value n h = decimal_in-value 9 n h

-- at most ten digits
pub decimal_in-few : (k n : ℕ) → length (decimal_in k n) ≤ suc k
unfolding decimal_in
decimal_in-few zero n = omega arith
decimal_in-few (suc k) n = by (ltb n 10) (decimal_in-few k (n / 10))
  where
    by : (test : Bool) → length (decimal_in k (n / 10)) ≤ suc k → length (cond test ((48 + n) ∷ []) (decimal_in k (n / 10) ++ ((48 + n % 10) ∷ []))) ≤ suc (suc k)
    by true h = omega arith
    by false h = simp length-append (omega arith)

pub decimal-few : (n : ℕ) → length (decimal n) ≤ 10
unfolding decimal
decimal-few n = decimal_in-few 9 n

-- at least one digit
decimal_in-some : (k n : ℕ) → 1 ≤ length (decimal_in k n)
unfolding decimal_in
decimal_in-some zero n = omega arith
decimal_in-some (suc k) n = by (ltb n 10)
  where
    by : (test : Bool) → 1 ≤ length (cond test ((48 + n) ∷ []) (decimal_in k (n / 10) ++ ((48 + n % 10) ∷ [])))
    by true = omega arith
    by false = simp length-append (omega arith)

pub decimal-some : (n : ℕ) → 1 ≤ length (decimal n)
unfolding decimal
decimal-some n = decimal_in-some 9 n

-- one digit, or one more than a tenth has
pub digits-one : (n : ℕ) → n < 10 → length (decimal n) ≡ 1
digits-one n h = ap length (decimal-one n h)

pub digits_more : (n : ℕ) → 10 ≤ n → n < 10000000000 → length (decimal n) ≡ length (decimal (n / 10)) + 1
digits_more n h l = ap length (decimal-more n h l) ∙ length-append (decimal (n / 10)) (glyph (n % 10) ∷ [])

-- a larger number stays larger with digits after it
most-from : (s : List ℕ) (n : ℕ) → n ≤ value_from n s
unfolding value_from
most-from [] n = omega arith
most-from (b ∷ s) n = let h = most-from s (n * 10 + (b - 48)) in omega arith

-- the largest number in the place of a larger one says the same in the end
pub most-value : (s : List ℕ) (n : ℕ) → most (value_from (most n) s) ≡ most (value_from n s)
most-value s n = go (leb n 4294967295) refl
  where
    go : (test : Bool) → leb n 4294967295 ≡ test → most (value_from (most n) s) ≡ most (value_from n s)
    go true e = let h = leb-true n 4294967295 e in let m : most n ≡ n = omega arith in rw m
    go false e =
        let h = leb-false n 4294967295 e in
        let a = most-from s (most n) in
        let b = most-from s n in
        omega arith

-- A word, digit by digit

-- the number of a word of which the digits before s say n
unfoldable pub finished : ℕ → List ℕ → Option ℕ
finished n s = cond (all_digits s) (Some (most (value_from n s))) None

pub finished-start : (s : List ℕ) → (length s ≡ 0 → ⊥) → number_in s ≡ finished 0 s
unfolding number_in finished
finished-start [] h = absurd (h refl)
finished-start (b ∷ s) h = refl

pub none_said : (s : List ℕ) → length s ≡ 0 → number_in s ≡ None
unfolding number_in
none_said [] h = refl
none_said (b ∷ s) h = absurd (omega arith)

-- a byte that is no digit
pub finished-other : (n b : ℕ) (s : List ℕ) → is_digit b ≡ false → finished n (b ∷ s) ≡ None
unfolding finished all_digits
finished-other n b s h = simp h

pub finished-low : (n b : ℕ) (s : List ℕ) → b < 48 → finished n (b ∷ s) ≡ None
finished-low n b s h = finished-other n b s (simp (lt-leb 48 b h))

pub finished-high : (n b : ℕ) (s : List ℕ) → 48 ≤ b → 57 < b → finished n (b ∷ s) ≡ None
finished-high n b s l h = finished-other n b s (simp (le-leb 48 b l, lt-leb b 57 h))

-- a digit
pub finished-more : (n b : ℕ) (s : List ℕ) → is_digit b ≡ true → finished n (b ∷ s) ≡ finished (most (n * 10 + (b - 48))) s
unfolding finished all_digits value_from
finished-more n b s h = simp (h, most-value s (n * 10 + (b - 48)))

pub finished-digit : (n b : ℕ) (s : List ℕ) → 48 ≤ b → b ≤ 57 → finished n (b ∷ s) ≡ finished (most (n * 10 + (b - 48))) s
finished-digit n b s l h = finished-more n b s (simp (le-leb 48 b l, le-leb b 57 h))

pub finished-end : (n : ℕ) → n ≤ 4294967295 → finished n [] ≡ Some n
unfolding finished all_digits value_from
finished-end n h = let m : most n ≡ n = omega arith in ap Some m

-- Numbers in decimal: as text, and read from a word. No lemma stands here: the laws are in Laws/Decimal.antt. Assumes nothing.
use Rattle.std.specs.Prelude.{Option, Some, None, Bool, true, cond, ◌&&◌, List, [], ◌∷◌, ◌++◌, ℕ, zero, suc, ◌+◌, ◌-◌, ◌*◌, ◌/◌, ◌%◌, min, leb, ltb}

-- the last digit of a number in base 16, in ASCII: `0` to `9`, then `a` to `f`
abbrev pub glyph : ℕ → ℕ
glyph n = cond (ltb (n % 16) 10) (48 + n % 16) (87 + n % 16)

-- the digits of n in ASCII, the higher ones first and with no leading zeros, where n has at most k + 1 of them; of a longer n its last k + 1
unfoldable pub decimal_in : ℕ → ℕ → List ℕ
decimal_in zero n = (48 + n % 10) ∷ []
decimal_in (suc k) n = cond (ltb n 10) ((48 + n) ∷ []) (decimal_in k (n / 10) ++ ((48 + n % 10) ∷ []))

-- a number below 10 ^ 10, as each of 32 bits is, in decimal
unfoldable pub decimal : ℕ → List ℕ
decimal n = decimal_in 9 n

-- whether a byte is a decimal digit, and whether all are
abbrev pub is_digit : ℕ → Bool
is_digit b = leb 48 b && leb b 57

unfoldable pub all_digits : List ℕ → Bool
all_digits [] = true
all_digits (b ∷ s) = is_digit b && all_digits s

-- the number that digits say after those that say n
unfoldable pub value_from : ℕ → List ℕ → ℕ
value_from n [] = n
value_from n (b ∷ s) = value_from (n * 10 + (b - 48)) s

-- the largest number of 32 bits in the place of a larger one
abbrev pub most : ℕ → ℕ
most n = min n 4294967295

-- a number with one digit more
abbrev pub with_digit : ℕ → ℕ → ℕ
with_digit n digit = most (n * 10 + digit)

-- the number that a word says: one digit at least, and nothing but digits
unfoldable pub number_in : List ℕ → Option ℕ
number_in [] = None
number_in (b ∷ s) = cond (all_digits (b ∷ s)) (Some (most (value_from 0 (b ∷ s)))) None

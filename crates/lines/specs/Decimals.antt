-- Floats of single precision as text: in exact decimal, and by a notation, which is decimal or the hexadecimal one of C. A finite float is
-- m * 2 ^ (e - 150) for whole numbers m and e, and so a whole number over a power of ten: it has an exact decimal. No lemma stands here: the
-- laws are in Laws/Decimals.antt. Assumes nothing.
use Rattle.std.specs.Prelude.{cond, List, ◌++◌, ℕ, zero, suc, ◌+◌, ◌-◌, ◌*◌, ◌/◌, ◌%◌, ◌^◌, eqb, ltb}
use Rattle.text.specs.Decimal.{decimal_in}
use Rattle.text.specs.Ascii.{ascii}
use Rattle.lines.specs.Texts.{digits, exponent_of, fraction_of, sign_text, special_text, bits_text}
use Rattle.lines.specs.declared.Notation.{Notation}

-- the last k digits of n without the zeros at their end, but one digit at least
unfoldable pub places_text : ℕ → ℕ → List ℕ
places_text zero n = ascii "0"
places_text (suc k) n = cond (eqb (n % 10) 0) (places_text k (n / 10)) (digits 10 (suc k) n)

-- n / 10 ^ k, which is below 10 ^ 39
unfoldable pub scaled_text : ℕ → ℕ → List ℕ
scaled_text k n = decimal_in 38 (n / 10 ^ k) ++ (ascii "." ++ places_text k n)

-- m * 2 ^ (e - 150): below the exponent 150 it is m * 5 ^ k / 10 ^ k with k = 150 - e, else a whole number
unfoldable pub binary_text : ℕ → ℕ → List ℕ
binary_text m e = cond (ltb e 150) (scaled_text (150 - e) (m * 5 ^ (150 - e))) (scaled_text 0 (m * 2 ^ (e - 150)))

-- a finite float by its exponent and its fraction: zero and subnormal floats have the exponent 1, all others a 1 bit above the fraction
abbrev pub exact_text : ℕ → ℕ → List ℕ
exact_text e f = cond (eqb e 0) (binary_text f 1) (binary_text (0x80_0000 + f) e)

-- a float by its 32 bits
abbrev pub float_text : ℕ → List ℕ
float_text bits = cond (eqb (exponent_of bits) 255) (special_text bits) (sign_text bits ++ exact_text (exponent_of bits) (fraction_of bits))

-- a float by its 32 bits in a notation
unfoldable pub float_in : Notation → ℕ → List ℕ
float_in Notation.Decimal = float_text
float_in Notation.Hexadecimal = bits_text

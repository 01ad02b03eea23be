-- The values of columns as text: numbers over a divisor, floats by their bits, names. No lemma stands here: the laws are in Laws/Texts.antt.
-- Assumes nothing.
use Rattle.std.specs.Prelude.{Option, Some, None, cond, List, [], ◌∷◌, ◌++◌, ℕ, zero, suc, ◌-◌, ◌*◌, ◌/◌, ◌%◌, ◌^◌, eqb, ltb, ℤ, pos, negsuc}
use Rattle.text.specs.Decimal.{glyph, decimal}
use Rattle.text.specs.Ascii.{ascii}

-- the last k digits of a number in base b, the higher first
unfoldable pub digits : ℕ → ℕ → ℕ → List ℕ
digits b zero n = []
digits b (suc k) n = digits b k (n / b) ++ (glyph (n % b) ∷ [])

-- Numbers over a divisor

-- k places if d is the power 10 ^ k, for some k below the first number
unfoldable pub places_below : ℕ → ℕ → Option ℕ
places_below zero d = None
places_below (suc k) d = cond (eqb d (10 ^ k)) (Some k) (places_below k d)

-- the decimal places of a divisor of 32 bits
unfoldable pub places_of : ℕ → Option ℕ
places_of d = places_below 10 d

-- a point and the last k digits of n; nothing where there are none
abbrev pub fraction_text : ℕ → ℕ → List ℕ
fraction_text zero n = []
fraction_text (suc k) n = ascii "." ++ digits 10 (suc k) n

-- n / d with so many places, or as n, a slash and d
abbrev pub quotient_text : Option ℕ → ℕ → ℕ → List ℕ
quotient_text (Some k) d n = decimal (n / d) ++ fraction_text k n
quotient_text None d n = decimal n ++ (ascii "/" ++ decimal d)

abbrev pub magnitude_text : ℕ → ℕ → List ℕ
magnitude_text d n = quotient_text (places_of d) d n

-- a number over the divisor d
abbrev pub number_text : ℕ → ℤ → List ℕ
number_text d (pos n) = magnitude_text d n
number_text d (negsuc n) = ascii "-" ++ magnitude_text d (suc n)

-- Floats of single precision, by their 32 bits: C's hexadecimal notation, in which every float has an exact one

abbrev pub exponent_of : ℕ → ℕ
exponent_of bits = bits / 0x80_0000 % 256

abbrev pub fraction_of : ℕ → ℕ
fraction_of bits = bits % 0x80_0000

abbrev pub sign_text : ℕ → List ℕ
sign_text bits = cond (ltb bits 0x8000_0000) [] (ascii "-")

-- exponent 255 is an infinity or no number
abbrev pub special_text : ℕ → List ℕ
special_text bits = cond (eqb (fraction_of bits) 0) (sign_text bits ++ ascii "inf") (ascii "nan")

-- the digit before the point: 0 for zero and subnormal floats, else 1
abbrev pub lead_of : ℕ → ℕ
lead_of e = cond (eqb e 0) 0 1

-- the exponent that counts: that of subnormal floats is 1, and zero is written with the power 0
abbrev pub scaled_of : ℕ → ℕ → ℕ
scaled_of e f = cond (eqb e 0) (cond (eqb f 0) 127 1) e

-- the power of two of an exponent, which is 127 more
abbrev pub exponent_text : ℕ → List ℕ
exponent_text e = cond (ltb e 127) (ascii "p-" ++ decimal (127 - e)) (ascii "p+" ++ decimal (e - 127))

-- the 23 bits of the fraction as six digits, with a 0 bit after them
abbrev pub finite_text : ℕ → ℕ → List ℕ
finite_text e f = ascii "0x" ++ ((glyph (lead_of e) ∷ []) ++ (ascii "." ++ (digits 16 6 (f * 2) ++ exponent_text (scaled_of e f))))

-- a float by its 32 bits
abbrev pub bits_text : ℕ → List ℕ
bits_text bits = cond (eqb (exponent_of bits) 255) (special_text bits) (sign_text bits ++ finite_text (exponent_of bits) (fraction_of bits))

-- Names

-- the bytes of a name before the first that is 0
unfoldable pub name_text : List ℕ → List ℕ
name_text [] = []
name_text (b ∷ s) = cond (eqb b 0) [] (b ∷ name_text s)

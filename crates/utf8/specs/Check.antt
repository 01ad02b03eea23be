-- The test of UTF-8, a byte at a time, which the contracts and other crates' definitions cite.
-- That it says yes exactly for UTF-8 is `exactly` of Laws/Utf8.antt. Assumes nothing.
use Rattle.std.specs.Prelude.{Bool, true, cond, ◌&&◌, ◌||◌, List, [], ◌∷◌, ℕ, zero, suc, ltb, eqb}
use Rattle.numbers.specs.Ranges.{within}

-- a byte that starts a character
unfoldable pub is_lead : ℕ → Bool
is_lead b = ltb b 0x80 || within 0xc2 0xf4 b

-- how many bytes follow the lead byte b
unfoldable pub following : ℕ → ℕ
following b = cond (ltb b 0x80) 0 (cond (ltb b 0xe0) 1 (cond (ltb b 0xf0) 2 3))

-- the least byte that may follow the lead byte b: a lesser one would be no shortest form
unfoldable pub lowest : ℕ → ℕ
lowest b = cond (eqb b 0xe0) 0xa0 (cond (eqb b 0xf0) 0x90 0x80)

-- the greatest byte that may follow the lead byte b: a greater one would be a surrogate, or above 10FFFF
unfoldable pub highest : ℕ → ℕ
highest b = cond (eqb b 0xed) 0x9f (cond (eqb b 0xf4) 0x8f 0xbf)

-- the bytes are whole characters where k bytes of the one before are still due, the first of them within lo and hi
unfoldable pub due : ℕ → ℕ → ℕ → List ℕ → Bool
due k lo hi [] = eqb k 0
due zero lo hi (b ∷ s) = is_lead b && due (following b) (lowest b) (highest b) s
due (suc k) lo hi (b ∷ s) = within lo hi b && due k 0x80 0xbf s

-- the bytes are UTF-8
abbrev pub is_utf8 : List ℕ → Bool
is_utf8 bytes = due 0 0x80 0xbf bytes

-- every byte is below 80: such bytes are UTF-8 (`is_ascii-is_utf8` of Laws/Check.antt)
unfoldable pub is_ascii : List ℕ → Bool
is_ascii [] = true
is_ascii (b ∷ s) = ltb b 0x80 && is_ascii s

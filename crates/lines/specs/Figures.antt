-- Decimal digits as numbers 0 to 9 in an array, the lowest first: what the steps to an exact decimal leave there. No lemma stands here: the laws
-- are in Laws/Figures.antt. Assumes nothing.
use Rattle.std.specs.Prelude.{cond, List, [], ◌∷◌, ◌++◌, ℕ, zero, suc, ◌+◌, ◌*◌, ◌/◌, ◌%◌, eqb}
use Rattle.text.specs.Decimal.{glyph}
use Rattle.text.specs.Ascii.{ascii}

-- the last k digits of n
unfoldable pub figures : ℕ → ℕ → List ℕ
figures zero n = []
figures (suc k) n = n % 10 ∷ figures k (n / 10)

-- the number that an array says
unfoldable pub value_of : List ℕ → ℕ
value_of [] = 0
value_of (d ∷ s) = d + value_of s * 10

-- an array as text, the highest digit first
unfoldable pub glyphs : List ℕ → List ℕ
glyphs [] = []
glyphs (d ∷ s) = glyphs s ++ (glyph d ∷ [])

-- an array as text without the zeros at the text's end, but one digit at least
unfoldable pub trimmed : List ℕ → List ℕ
trimmed [] = ascii "0"
trimmed (d ∷ s) = cond (eqb d 0) (trimmed s) (glyphs (d ∷ s))

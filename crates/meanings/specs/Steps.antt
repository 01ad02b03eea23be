-- A table of numbered words as bytes, for the code: what its rows are, where a line ends, and what it has for a number. No lemma stands here: the laws are in Laws/Steps.antt.
-- Assumes nothing.
use Rattle.std.specs.Prelude.{Bool, true, false, cond, List, [], ◌∷◌, ◌++◌, ℕ, ◌+◌, eqb, length, drop}
use Rattle.meanings.specs.Meanings.{Meaning}

-- the byte that ends a row
abbrev pub line_feed : ℕ
line_feed = 10

-- the rows as bytes: the number, the text, and a line feed
unfoldable pub rows_of : List Meaning → List ℕ
rows_of [] = []
rows_of (m ∷ ms) = m.number ∷ (m.text ++ (line_feed ∷ rows_of ms))

-- the bytes up to the first line feed
unfoldable pub line_of : List ℕ → List ℕ
line_of [] = []
line_of (b ∷ s) = cond (eqb b line_feed) [] (b ∷ line_of s)

-- where the line of a place ends
unfoldable pub line_end : List ℕ → ℕ → ℕ
line_end s at = at + length (line_of (drop at s))

-- the words of the first row with a number in what is left of a table; `begins` says that a row begins here
unfoldable pub words_from : Bool → List ℕ → ℕ → List ℕ
words_from begins [] n = []
words_from true (b ∷ s) n = cond (eqb b n) (line_of s) (words_from false s n)
words_from false (b ∷ s) n = words_from (eqb b line_feed) s n

-- the words that a table has for a number; none where no row has it
unfoldable pub words_in : List ℕ → ℕ → List ℕ
words_in table n = words_from true table n

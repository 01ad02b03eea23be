-- How a word or the name of a file is shown, so that a sentence stays on one line. No lemma stands here: the laws are in Laws/Shown.antt.
-- Assumes nothing.
use Rattle.std.specs.Prelude.{Bool, true, false, cond, List, [], ◌∷◌, ◌++◌, ℕ, ◌/◌, ◌%◌, eqb, ltb, length}
use Rattle.text.specs.Equal.{equal}
use Rattle.text.specs.Ascii.{ascii}
use Rattle.text.specs.Decimal.{glyph}

-- what stands for each byte of a list, one after the other
unfoldable pub replaced : (ℕ → List ℕ) → List ℕ → List ℕ
replaced f [] = []
replaced f (b ∷ s) = f b ++ replaced f s

-- does a byte print? Those below 32 and 127 are control characters
abbrev pub printing : ℕ → Bool
printing b = cond (ltb b 32) false (cond (eqb b 127) false true)

-- a byte as it is shown: one that does not print as \x and two digits in base 16
abbrev pub shown_byte : ℕ → List ℕ
shown_byte b = cond (printing b) (b ∷ []) (ascii "\\x" ++ (glyph (b / 16) ∷ glyph (b % 16) ∷ []))

-- a word as it is shown
abbrev pub shown : List ℕ → List ℕ
shown word = replaced shown_byte word

-- a file as it is named in a sentence: `-` is standard input, in the letters that are given, and an empty name stands in quotation marks
abbrev pub file_name : List ℕ → List ℕ → List ℕ
file_name input file = cond (equal file (ascii "-")) input (cond (eqb (length file) 0) (ascii "\"\"") (shown file))

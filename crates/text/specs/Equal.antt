-- Whether two lists of bytes are the same, and whether bytes begin with a word, as tests. No lemma stands here; the laws are in Laws/Equal.antt.
-- Assumes nothing.
use Rattle.std.specs.Prelude.{Bool, true, false, ◌&&◌, List, [], ◌∷◌, ℕ, eqb, length, take}

-- are two lists equal?
unfoldable pub equal : List ℕ → List ℕ → Bool
equal [] [] = true
equal [] (y ∷ ys) = false
equal (x ∷ xs) [] = false
equal (x ∷ xs) (y ∷ ys) = eqb x y && equal xs ys

-- do bytes begin with a word?
abbrev pub begins : List ℕ → List ℕ → Bool
begins word bytes = equal (take (length word) bytes) word

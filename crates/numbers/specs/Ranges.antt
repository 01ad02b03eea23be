-- Integers between two others, and indices of tables, one by one and over a list. No lemma stands here: the laws are in Laws/Ranges.antt.
-- Assumes nothing.
use Rattle.std.specs.Prelude.{Bool, true, false, cond, ◌&&◌, List, [], ◌∷◌, ℕ, zero, suc, ℤ, pos, negsuc, ltb, leb}
use Rattle.std.specs.Int.Signed.{le_z}

-- the largest integer of 32 bits; the smallest is one further from 0
abbrev pub integer_limit : ℕ
integer_limit = 2147483647

-- whether all integers pass a test
unfoldable pub all_pass : (ℤ → Bool) → List ℤ → Bool
all_pass test [] = true
all_pass test (x ∷ xs) = test x && all_pass test xs

-- whether an integer lies between two others, which count as between
abbrev pub between : ℤ → ℤ → ℤ → Bool
between low high x = le_z low x && le_z x high

abbrev pub all_between : ℤ → ℤ → List ℤ → Bool
all_between low high xs = all_pass (between low high) xs

-- whether an integer is an index of a table of n entries
abbrev pub below : ℕ → ℤ → Bool
below n (pos i) = ltb i n
below n (negsuc i) = false

abbrev pub all_below : ℕ → List ℤ → Bool
all_below n xs = all_pass (below n) xs

-- the last index of a table of n entries that an integer can hold, -1 where there is none
abbrev pub last_index : ℕ → ℤ
last_index zero = negsuc 0
last_index (suc n) = pos (cond (leb n integer_limit) n integer_limit)

-- whether a number lies from low to high, both included
abbrev pub within : ℕ → ℕ → ℕ → Bool
within low high n = leb low n && leb n high

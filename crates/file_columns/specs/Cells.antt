-- The cells of a column taken together: whether all pass a test, and sums over tables by them. No lemma stands here: the laws are in Laws/Cells.antt. Assumes nothing.
use Rattle.std.specs.Prelude.{ℕ, ◌+◌, Bool, false, cond, ◌&&◌, Option, Some, None, List, [], ◌∷◌, length, ℤ, nat_le, slice_index, unsigned_abs}
use Rattle.numbers.specs.Ranges.{all_pass, all_below}
use Rattle.columns.specs.Decode.{Decoding, refused, column}
use Rattle.file_columns.specs.declared.whole.Sums.{Sums}

-- the most group types
abbrev pub type_limit : ℕ
type_limit = 4096

-- whether a column decodes, and all its cells pass a test
abbrev pub cells_pass : (ℤ → Bool) → Decoding → Bool
cells_pass test (refused r) = false
cells_pass test (column k m xs) = all_pass test xs

-- the sum, over all cells, of the table's entry at the cell's size, 0 past its end; cells are indices of the table wherever a total is asked for
unfoldable pub total : List ℕ → List ℤ → ℕ
total table [] = 0
total table (x ∷ xs) = slice_index table (unsigned_abs x) + total table xs

-- the sums of two tables over cells that are all indices of the first n entries; else none
abbrev pub sums_over : ℕ → List ℕ → List ℕ → List ℤ → Option Sums
sums_over n atoms bonds xs = cond (all_below n xs) (Some (record { atoms = total atoms xs; bonds = total bonds xs })) None

-- whether two tables have n entries each
abbrev pub holds : ℕ → List ℕ → List ℕ → Bool
holds n atoms bonds = nat_le n (length atoms) && nat_le n (length bonds)

-- the sums over the cells of a column that decodes, where the tables have n entries; else none
abbrev pub sums_of : ℕ → List ℕ → List ℕ → Decoding → Option Sums
sums_of n atoms bonds (refused r) = None
sums_of n atoms bonds (column k m xs) = cond (holds n atoms bonds) (sums_over n atoms bonds xs) None

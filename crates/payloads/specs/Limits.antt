-- Limits among packed numbers, counted: for the code inside. No lemma stands here: the laws are in Laws/Limits.antt. Assumes nothing.
use Rattle.std.specs.Prelude.{ℕ, zero, suc, ◌+◌, ◌*◌, ◌≤◌, Bool, true, false, cond, List}
use Rattle.numbers.specs.BigEndian.{signed_at}
use Rattle.steps.specs.declared.Size.{Size}
use Rattle.steps.specs.declared.Size.TheVariants.{One, Two}
use Rattle.steps.specs.Width.{width_of, size_of, upper, lower}
use Rattle.steps.specs.Packing.{is_limit}

-- the size of packed numbers: two bytes, or one
abbrev pub packed_size : Bool → Size
packed_size true = Two
packed_size false = One

-- 1 where the number at a place is a limit, else 0
abbrev pub limit_at : Size → List ℕ → ℕ → ℕ
limit_at z s at = cond (is_limit (upper z) (lower z) (signed_at (width_of z) s at)) 1 0

-- how many of k numbers are limits
unfoldable pub limits_in : Size → List ℕ → ℕ → ℕ → ℕ
limits_in z s at zero = 0
limits_in z s at (suc k) = limits_in z s at k + limit_at z s (at + size_of z * k)

-- whether the last of k numbers is a limit
unfoldable pub ends_at_limit : Size → List ℕ → ℕ → Bool
ends_at_limit z s zero = false
ends_at_limit z s (suc k) = is_limit (upper z) (lower z) (signed_at (width_of z) s (size_of z * k))

-- how many limits stand in a row at the end of k numbers
unfoldable pub row_at : Size → List ℕ → ℕ → ℕ
row_at z s zero = 0
row_at z s (suc k) = cond (is_limit (upper z) (lower z) (signed_at (width_of z) s (size_of z * k))) (suc (row_at z s k)) 0

-- no row among k numbers is longer than m
abbrev pub RowsWithin : ℕ → Bool → List ℕ → ℕ → Type 0
RowsWithin m two s k = (j : ℕ) → j ≤ k → row_at (packed_size two) s j ≤ m

-- so many limits in a row, and a number after them, have a sum of 32 bits
abbrev pub most_limits : Bool → ℕ
most_limits true = 65534
most_limits false = 16777214

-- so many limits in a row, and a number after them, have a sum that is exact in single precision
abbrev pub exact_limits : Bool → ℕ
exact_limits true = 510
exact_limits false = 131070

-- no row is longer where no block of 256 numbers is all limits
abbrev pub block_row : ℕ
block_row = 510

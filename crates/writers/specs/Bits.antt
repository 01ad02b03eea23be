-- Numbers by their bits, a count up to the room, runs counted in blocks, and what is to be written at a spot. No lemma stands here.
-- Assumes nothing.
use Rattle.std.specs.Prelude.{◌≡◌, ℕ, ◌+◌, ◌*◌, ◌/◌, ◌%◌, ◌<◌, ◌≤◌, Bool, cond, List, [], ◌∷◌, ◌++◌, length, drop, ℤ, pos, nat_le, slice_index_or}
use Rattle.std.specs.Int.{w32}
use Rattle.std.proofs.Common.{to_z, of_z}
use Rattle.numbers.specs.BigEndian.{bytes_of}
use Rattle.steps.specs.declared.Size.{Size}
use Rattle.steps.specs.Width.{size_of}
use Rattle.steps.specs.Numbers.{bytes_for}
use Rattle.steps.specs.Packing.{pack}
use Rattle.steps.specs.Delta.{deltas_from}
use Rattle.steps.specs.RunLength.{runs_of}
use Rattle.writers.specs.Placed.{over}
use Rattle.writers.specs.declared.packed.Spot.{Spot}

-- the low bytes of numbers, one after the other
unfoldable pub bits_for : Size → List ℕ → List ℕ
bits_for z [] = []
bits_for z (u ∷ us) = bytes_of (size_of z) u ++ bits_for z us

-- n where there is room for it, and one more than the room where there is not
unfoldable pub up_to : ℕ → ℕ → ℕ
up_to room n = cond (nat_le n room) n (room + 1)

-- what a payload holds for the cells after the one at i, whose own value is taken by its 32 bits, as the code reads it
abbrev pub cells_after : Bool → List ℤ → ℕ → List ℤ
cells_after d xs i = deltas_from d (to_z w32 (of_z w32 (slice_index_or xs i (pos 0)))) (drop (i + 1) xs)

-- u has the bits of what a payload holds for the cell after the one at i
pub record CellAfter (d : Bool) (xs : List ℤ) (i u : ℕ) : Type 0 where
  pub cell : cells_after d xs i ≡ to_z w32 u ∷ cells_after d xs (i + 1)
  pub fits : u < 4294967296

-- the cells after the one at i have k runs more than the cells after the one at i + n
pub record BegunIn (d : Bool) (xs : List ℤ) (i n k : ℕ) : Type 0 where
  pub runs : length (runs_of (cells_after d xs i)) ≡ k * 2 + length (runs_of (cells_after d xs (i + n)))
  pub most : k ≤ n

-- the bytes that are still to be written at a spot
abbrev pub to_write : Size → Bool → List ℤ → Spot → List ℕ
to_write z d xs p = bytes_for z (pack z (deltas_from d p.before (drop p.next xs)))

-- the spot q in the buffer t goes on from the spot p in the buffer s: what is still to be written comes to one buffer from both
abbrev pub GoesOn : Size → Bool → List ℤ → List ℕ → Spot → List ℕ → Spot → Type 0
GoesOn z d xs s p t q = over t q.at (to_write z d xs q) ≡ over s p.at (to_write z d xs p)

-- r has the four bytes of n in the other order
pub record Swapped (n r : ℕ) : Type 0 where
  pub first : r % 256 ≡ n / 256 / 256 / 256 % 256
  pub second : r / 256 % 256 ≡ n / 256 / 256 % 256
  pub third : r / 256 / 256 % 256 ≡ n / 256 % 256
  pub fourth : r / 256 / 256 / 256 % 256 ≡ n % 256

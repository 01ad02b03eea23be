-- The signed big-endian numbers of a payload, once over their size. No lemma stands here: the laws are in Laws/Numbers.antt.
-- Assumes nothing.
use Rattle.std.specs.Prelude.{ℕ, zero, suc, ◌/◌, List, [], ◌∷◌, ◌++◌, length, take, drop, ℤ}
use Rattle.std.proofs.Common.{to_z, of_z}
use Rattle.numbers.specs.BigEndian.{number_of, bytes_of}
use Rattle.steps.specs.declared.Size.{Size}
use Rattle.steps.specs.Width.{width_of, size_of}

-- the first n numbers in bytes, in two's complement
unfoldable pub first_numbers : Size → ℕ → List ℕ → List ℤ
first_numbers z zero s = []
first_numbers z (suc n) s = to_z (width_of z) (number_of (take (size_of z) s)) ∷ first_numbers z n (drop (size_of z) s)

-- the numbers in bytes, one after the other; bytes left over at the end are no number
unfoldable pub numbers_in : Size → List ℕ → List ℤ
numbers_in z s = first_numbers z (length s / size_of z) s

-- the bytes of numbers, one after the other
unfoldable pub bytes_for : Size → List ℤ → List ℕ
bytes_for z [] = []
bytes_for z (x ∷ xs) = bytes_of (size_of z) (of_z (width_of z) x) ++ bytes_for z xs

-- The number that is said of an error of the system. No lemma stands here. Assumes nothing.
use Rattle.std.specs.Prelude.{ℕ, ℤ, Option, None, Some}
use Rattle.std.specs.Int.{w32}
use Rattle.std.proofs.Common.{of_z}

-- the 32 bits of the system's number; an error that has none is one of input or output, 5
abbrev pub number_in : Option ℤ → ℕ
number_in (Some n) = of_z w32 n
number_in None = 5

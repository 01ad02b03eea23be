-- Numbers that are exact in single precision (27). No lemma stands here: the laws are in Laws/Exact.antt. Assumes nothing.
use Rattle.std.specs.Prelude.{ℕ, Bool, true, ◌&&◌, List, [], ◌∷◌, ℤ, nat_le, unsigned_abs}

-- the largest whole number up to which all are exact in single precision
abbrev pub exact_limit : ℕ
exact_limit = 16777216

-- whether a number is at most that in size
abbrev pub exact : ℤ → Bool
exact z = nat_le (unsigned_abs z) exact_limit

unfoldable pub all_exact : List ℤ → Bool
all_exact [] = true
all_exact (x ∷ xs) = exact x && all_exact xs

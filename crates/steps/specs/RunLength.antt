-- Run-length (paper 01: runs): a value, then how many cells have it. No lemma stands here: the laws are in Laws/RunLength.antt.
-- Assumes nothing.
use Rattle.std.specs.Prelude.{ℕ, suc, Bool, cond, List, [], ◌∷◌, ◌++◌, replicate, ℤ, pos, ◌==◌, int_lt, unsigned_abs}
use Rattle.std.proofs.Math.Option.{Option, none, some, map}
use Rattle.std.specs.Int.{w32}
use Rattle.std.proofs.Common.{of_z}

-- value, count, value, count, ..: each value as often as its count says; none where a count is below 1
unfoldable pub expand : List ℤ → Option (List ℤ)
expand (v ∷ (n ∷ xs)) = cond (int_lt n (pos 1)) none (map (λ (l : List ℤ). replicate (unsigned_abs n) v ++ l) (expand xs))
expand (v ∷ []) = some []
expand [] = some []

-- whether two cells are the same 32-bit number
abbrev pub same : ℤ → ℤ → Bool
same x v = of_z w32 x == of_z w32 v

-- the longest runs of cells of which the first n are v
unfoldable pub runs_from : ℤ → ℕ → List ℤ → List ℤ
runs_from v n [] = v ∷ (pos n ∷ [])
runs_from v n (x ∷ xs) = cond (same x v) (runs_from v (suc n) xs) (v ∷ (pos n ∷ runs_from x 1 xs))

-- the longest runs of cells: the writer's form
unfoldable pub runs_of : List ℤ → List ℤ
runs_of [] = []
runs_of (x ∷ xs) = runs_from x 1 xs

-- Numbers that all keep a rule: they have a width, or stand between two limits. Statements and laws ask for it. No lemma stands
-- here: the laws are in Laws/Fits.antt. Assumes nothing.
use Rattle.std.specs.Prelude.{ℕ, suc, ◌≤◌, List, [], ◌∷◌, ℤ, pos, negsuc, FitsSigned}
use Rattle.std.specs.Int.{Width}

-- every number keeps the rule
unfoldable pub Every : (ℤ → Type 0) → List ℤ → Type 0
Every rule [] = Unit
Every rule (x ∷ xs) = rule x × Every rule xs

-- every number is a signed one of the width
abbrev pub AllFit : Width → List ℤ → Type 0
AllFit w xs = Every (FitsSigned w) xs

-- x is at most p and at least -q
abbrev pub Between : ℕ → ℕ → ℤ → Type 0
Between p q (pos n) = n ≤ p
Between p q (negsuc n) = suc n ≤ q

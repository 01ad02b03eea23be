-- Laws of numbers that all keep a rule. Assumes nothing.
use Rattle.std.specs.Prelude.{List, [], ◌∷◌, ℤ}
use Rattle.steps.specs.Fits.{Every}

-- a rule that follows from another
pub every_map : (P Q : ℤ → Type 0) → ((x : ℤ) → P x → Q x) → (xs : List ℤ) → Every P xs → Every Q xs
unfolding Every
every_map P Q f [] h = tt
every_map P Q f (x ∷ xs) h = (f x h.0, every_map P Q f xs h.1)

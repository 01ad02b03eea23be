-- The writer's form of a payload's numbers (paper 01), by rules of its own that name no encoder. No lemma stands here. Assumes nothing.
use Rattle.std.specs.Prelude.{◌≡◌, ℕ, List, [], ◌∷◌, ℤ, pos, neg_ℤ, ◌≤ℤ◌, ◌≢◌}
use Rattle.steps.specs.declared.Form.{Form}
use Rattle.steps.specs.declared.Form.TheVariants.{Plain, Packed, Runs, Names}
use Rattle.steps.specs.Width.{upper, lower}

-- value, count, value, count, ..: neighbouring values differ, so that no run could be longer
unfoldable pub Longest : List ℤ → Type 0
Longest (v ∷ (n ∷ (w ∷ xs))) = (w ≢ v) × Longest (w ∷ xs)
Longest (v ∷ (n ∷ [])) = Unit
Longest (v ∷ []) = Unit
Longest [] = Unit

-- after the upper limit p comes no negative number, after the lower limit -q no positive one
unfoldable pub OwnSign : ℕ → ℕ → List ℤ → Type 0
OwnSign p q (x ∷ (y ∷ xs)) = (x ≡ pos p → pos 0 ≤ℤ y) × (x ≡ neg_ℤ (pos q) → y ≤ℤ pos 0) × OwnSign p q (y ∷ xs)
OwnSign p q (x ∷ []) = Unit
OwnSign p q [] = Unit

-- the writer's form of the numbers of a payload; plain numbers and names have only one form
abbrev pub NumbersForm : Form → List ℤ → Type 0
NumbersForm (Plain z) ns = Unit
NumbersForm (Packed z) ns = OwnSign (upper z) (lower z) ns
NumbersForm (Runs r) ns = Longest ns
NumbersForm Names ns = Unit

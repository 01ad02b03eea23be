-- Lines of text in a buffer, for values of any kind: as many as have room. No lemma stands here: the laws are in Laws/Lines.antt.
-- Assumes nothing.
use Rattle.std.specs.Prelude.{◌≡◌, cond, List, [], ◌∷◌, ◌++◌, ℕ, zero, suc, ◌-◌, ◌/◌, ◌≤◌, leb, length, take, drop}
use Rattle.std.proofs.lemmas.List.Edits.{sets}
use Rattle.lines.specs.declared.Gathered.{Gathered}

-- the line of a value: its text and a line feed
abbrev pub line : {A : Type 0} → (A → List ℕ) → A → List ℕ
line text x = text x ++ (10 ∷ [])

-- the lines of values
unfoldable pub lines : {A : Type 0} → (A → List ℕ) → List A → List ℕ
lines text [] = []
lines text (x ∷ xs) = line text x ++ lines text xs

-- how many values are put into so many bytes: one after the other, while there is room
unfoldable pub gathered : {A : Type 0} → (A → List ℕ) → ℕ → ℕ → List A → ℕ
gathered text room left [] = 0
gathered text room left (x ∷ xs) = cond (leb room left) (suc (gathered text room (left - length (line text x)) xs)) 0

-- The lines of the first of some values stand at the start of a buffer, and everything beyond is as it was.
pub record Lines {A : Type 0} (text : A → List ℕ) (room : ℕ) (xs : List A) (old new : List ℕ) (r : Gathered) : Type 0 where
  pub values : r.values ≡ gathered text room (length old) xs
  pub bytes : r.bytes ≡ length (lines text (take r.values xs))
  pub inside : r.bytes ≤ length old
  pub lent : new ≡ sets old 0 (lines text (take r.values xs))

-- the first so many names of a size, and all of them
unfoldable pub names_from : ℕ → ℕ → List ℕ → List (List ℕ)
names_from zero size s = []
names_from (suc n) size s = take size s ∷ names_from n size (drop size s)

unfoldable pub names_in : ℕ → List ℕ → List (List ℕ)
names_in size s = names_from (length s / size) size s

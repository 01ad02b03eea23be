-- Arrays of integers, as documents: their integers in order, and the sum of those. No reader, no place and no lemma stands here: the laws are
-- in Laws/Integers.antt. Assumes nothing.
use Rattle.std.specs.Prelude.{Bool, cond, List, [], ◌∷◌, ℕ, ◌+◌, ℤ, pos, nat_abs, Option as Answer, Some, None}
use Rattle.std.proofs.Math.Option.{Option, some, none as nothing}
use Rattle.std.specs.Int.Signed.{le_z}
use Rattle.numbers.specs.Ranges.{all_pass}
use Rattle.messagepack.specs.Document.{Document, Documents, none, item, count}
use Rattle.values.specs.Parts.{integer_of, items_of}

-- the integers of an array's values
unfoldable pub integers_of : Documents → List ℤ
integers_of none = []
integers_of (item d ds) = integer_of d ∷ integers_of ds

-- the integers of an array, if there is one
abbrev pub integers_in : Option Document → Option (List ℤ)
integers_in (some x) = some (integers_of (items_of x))
integers_in nothing = nothing

-- a list, if there is one
abbrev pub list_in : Option (List ℤ) → List ℤ
list_in (some xs) = xs
list_in nothing = []

-- is none of them negative?
abbrev pub none_negative : List ℤ → Bool
none_negative xs = all_pass (le_z (pos 0)) xs

-- the sum of integers of which none is negative
unfoldable pub sum : List ℤ → ℕ
sum [] = 0
sum (x ∷ xs) = nat_abs x + sum xs

-- the answer for a sum: none where one is negative, or the sum
abbrev pub summed : List ℤ → Answer ℕ
summed xs = cond (none_negative xs) (Some (sum xs)) None

-- how many values an array has, if it is there
abbrev pub array_length : Option Document → Answer ℕ
array_length (some x) = Some (count (items_of x))
array_length nothing = None

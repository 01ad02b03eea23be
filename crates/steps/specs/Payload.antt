-- A payload's form: which steps make its values, and which values it may hold. One definition reads and one writes a payload of any
-- form. Here f is a form, m the header's parameter (the size of a name), s the payload's bytes. No lemma stands here. Assumes nothing.
use Rattle.std.specs.Prelude.{ℕ, suc, ◌%◌, Bool, true, cond, not, ◌&&◌, ◌||◌, List, [], ◌∷◌, ℤ, pos, negsuc, ◌==◌, int_le}
use Rattle.std.proofs.Math.Option.{Option, none, some}
use Rattle.std.specs.Int.{w32}
use Rattle.std.proofs.Common.{of_z}
use Rattle.steps.specs.declared.Size.{Size}
use Rattle.steps.specs.declared.Size.TheVariants.{One, Two, Four}
use Rattle.steps.specs.declared.Range.{Range}
use Rattle.steps.specs.declared.Range.TheVariants.{Int8, Int16, Int32, Ascii}
use Rattle.steps.specs.declared.Form.{Form}
use Rattle.steps.specs.declared.Form.TheVariants.{Plain, Packed, Runs, Names}
use Rattle.steps.specs.Numbers.{numbers_in}
use Rattle.steps.specs.RunLength.{expand, runs_of}
use Rattle.steps.specs.Packing.{unpack, pack}

-- the size of a payload's numbers
abbrev pub number_size : Form → Size
number_size (Plain z) = z
number_size (Packed z) = z
number_size (Runs r) = Four
number_size Names = One

-- the numbers that the writer puts into a payload for values
unfoldable pub numbers_for : Form → List ℤ → List ℤ
numbers_for (Plain z) xs = xs
numbers_for (Packed z) xs = pack z xs
numbers_for (Runs r) xs = runs_of xs
numbers_for Names xs = xs

-- the smallest and the largest number of a range
abbrev pub least_in : Range → ℤ
least_in Int8 = negsuc 127
least_in Int16 = negsuc 32767
least_in Int32 = negsuc 2147483647
least_in Ascii = pos 0

abbrev pub most_in : Range → ℤ
most_in Int8 = pos 127
most_in Int16 = pos 32767
most_in Int32 = pos 2147483647
most_in Ascii = pos 127

abbrev pub in_range : Range → ℤ → Bool
in_range r x = int_le (least_in r) x && int_le x (most_in r)

unfoldable pub all_in : Range → List ℤ → Bool
all_in r [] = true
all_in r (x ∷ xs) = in_range r x && all_in r xs

-- the range of a form's values
abbrev pub range_of : Form → Range
range_of (Plain One) = Int8
range_of (Plain Two) = Int16
range_of (Plain Four) = Int32
range_of (Packed z) = Int32
range_of (Runs r) = r
range_of Names = Ascii

-- Names of m bytes each, one after the other: in a name no byte but 0 follows a 0. i is the place of the next byte, a the byte before.
unfoldable pub padded_from : ℕ → ℕ → ℤ → List ℤ → Bool
padded_from m i a [] = true
padded_from m i a (b ∷ bs) = (i % m == 0 || not (of_z w32 a == 0) || of_z w32 b == 0) && padded_from m (suc i) b bs

-- whether names are padded; other forms have no names
abbrev pub padded : Form → ℕ → List ℤ → Bool
padded Names m xs = padded_from m 0 (pos 0) xs
padded (Plain z) m xs = true
padded (Packed z) m xs = true
padded (Runs r) m xs = true

-- the values that a form may hold, with the header's parameter m: what is not allowed is 18
abbrev pub allowed : Form → ℕ → List ℤ → Bool
allowed f m xs = all_in (range_of f) xs && padded f m xs

-- values that pass a test; else none
abbrev pub only_if : (List ℤ → Bool) → Option (List ℤ) → Option (List ℤ)
only_if test none = none
only_if test (some l) = cond (test l) (some l) none

-- values that are all of a range; else none
abbrev pub only_in : Range → Option (List ℤ) → Option (List ℤ)
only_in r o = only_if (all_in r) o

-- The values of a payload, before delta; none where a count is below 1, a result is unfinished or outside 32 bits, or a value is not of the
-- form's range. Plain numbers have the range of their width by themselves, and packed results that of 32 bits.
unfoldable pub read_in : Form → List ℕ → Option (List ℤ)
read_in (Plain z) s = some (numbers_in z s)
read_in (Packed z) s = unpack z (numbers_in z s)
read_in (Runs r) s = only_in r (expand (numbers_in Four s))
read_in Names s = only_in Ascii (some (numbers_in One s))

-- what a payload holds: its values, where names are padded too. None is 18, and whatever is held is `allowed` (the law `held_in-allowed`).
unfoldable pub held_in : Form → ℕ → List ℕ → Option (List ℤ)
held_in f m s = only_if (padded f m) (read_in f s)

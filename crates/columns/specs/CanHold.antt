-- What a codec can hold: which columns it has an encoding for (paper 01, "Columns"), codec by codec and by rules of their own. No encoder, no
-- decoder and no form of a payload stands here, and no lemma: that an encoder succeeds exactly for these is `encode-exactly` of
-- Laws/CanHold.antt. Assumes nothing.
use Rattle.std.specs.Prelude.{◌≡◌, Bool, true, false, cond, ◌||◌, List, [], ◌∷◌, ℕ, ◌*◌, ◌/◌, ◌≤◌, ◌<◌, length, get_or, ℤ, pos, neg_ℤ, ◌≤ℤ◌, eqb}
use Rattle.numbers.specs.Ranges.{integer_limit}
use Rattle.steps.specs.Fits.{Every}
use Rattle.columns.specs.declared.Kind.{Kind}
use Rattle.columns.specs.declared.Kind.TheVariants as kind
use Rattle.columns.specs.Table.{length_limit, name_limit}

-- is a number one of a list?
unfoldable pub is_one_of : ℕ → List ℕ → Bool
is_one_of c [] = false
is_one_of c (d ∷ ds) = eqb c d || is_one_of c ds

-- the codecs of each kind (paper 01: real by codec 1, real by integers and divisor, small, short, whole, names, letters)
abbrev pub codecs_of : Kind → List ℕ
codecs_of kind.Float32 = 1 ∷ []
codecs_of kind.FixedPoint = 9 ∷ 10 ∷ 11 ∷ 12 ∷ 13 ∷ []
codecs_of kind.Int8 = 2 ∷ 16 ∷ []
codecs_of kind.Int16 = 3 ∷ []
codecs_of kind.Int32 = 4 ∷ 7 ∷ 8 ∷ 14 ∷ 15 ∷ []
codecs_of kind.Strings = 5 ∷ []
codecs_of kind.Chars = 6 ∷ []

-- the smallest and the largest number of a column: codecs 2 and 16 hold 8-bit numbers, 3 and 11 16-bit numbers, 5 and 6 the bytes 0 to
-- 127, and all others 32-bit numbers
abbrev pub least_by : ℕ → ℤ
least_by c =
    cond (is_one_of c (2 ∷ 16 ∷ [])) (neg_ℤ (pos 128)) (cond (is_one_of c (3 ∷ 11 ∷ [])) (neg_ℤ (pos 32768)) (cond (is_one_of c (5 ∷ 6 ∷ [])) (pos 0) (neg_ℤ (pos 2147483648))))

abbrev pub most_by : ℕ → ℤ
most_by c = cond (is_one_of c (2 ∷ 5 ∷ 6 ∷ 16 ∷ [])) (pos 127) (cond (is_one_of c (3 ∷ 11 ∷ [])) (pos 32767) (pos 2147483647))

-- names of m bytes each, one after the other: where a byte of a name is 0, so are the later bytes of that name
abbrev pub ZeroPadded : ℕ → List ℤ → Type 0
ZeroPadded m xs = (i j : ℕ) → i < j → j < length xs → i / m ≡ j / m → get_or xs i (pos 0) ≡ pos 0 → get_or xs j (pos 0) ≡ pos 0

-- a codec c of the kind k can hold the column xs with the parameter m; of names the column is their bytes
pub record CanHold (k : Kind) (c m : ℕ) (xs : List ℤ) : Type 0 where
  pub codec : is_one_of c (codecs_of k) ≡ true
  -- a name has 1 to 255 bytes; names are whole, and not too many
  pub size : c ≡ 5 → (1 ≤ m) × (m ≤ name_limit)
  pub names : c ≡ 5 → (n : ℕ) × (length xs ≡ n * m) × (n ≤ length_limit)
  -- other columns have not too many cells
  pub few : (c ≡ 5 → ⊥) → length xs ≤ length_limit
  -- a divisor is at least 1, and a signed 32-bit number
  pub divisor : 9 ≤ c → c ≤ 13 → (1 ≤ m) × (m ≤ integer_limit)
  -- each number is one that the codec holds
  pub numbers : Every (λ (x : ℤ). (least_by c ≤ℤ x) × (x ≤ℤ most_by c)) xs
  pub padded : c ≡ 5 → ZeroPadded m xs

-- Big-endian numbers in bytes: what the contracts of this crate and of those above it cite.
-- No lemma stands here: the laws are in Laws/BigEndian.antt. Assumes nothing.
use Rattle.std.specs.Prelude.{Bool, cond, List, [], ◌∷◌, ◌++◌, ℕ, zero, suc, ◌+◌, ◌*◌, ◌/◌, ◌%◌, ◌^◌, ◌<◌, leb, ℤ, length, get_or, take, drop}
use Rattle.std.specs.Int.{Width}
use mir.Val.{bits, to_z}

-- every element is a byte
unfoldable pub Bytes : List ℕ → Type 0
Bytes s = (i : ℕ) → i < length s → get_or s i 0 < 256

-- the number that bytes hold, the higher first
unfoldable pub number_of : List ℕ → ℕ
number_of [] = 0
number_of (b ∷ bs) = b * 256 ^ length bs + number_of bs

-- n in k bytes, the higher first
unfoldable pub bytes_of : ℕ → ℕ → List ℕ
bytes_of zero n = []
bytes_of (suc k) n = (n / 256 ^ k) % 256 ∷ bytes_of k n

-- whether k bytes that start at `at` are all inside
abbrev pub inside : ℕ → List ℕ → ℕ → Bool
inside k s at = leb (at + k) (length s)

-- the number in the k bytes that start at `at`; 0 where they are not all inside
unfoldable pub unsigned_at : ℕ → List ℕ → ℕ → ℕ
unsigned_at k s at = cond (inside k s at) (number_of (take k (drop at s))) 0

-- how many bytes a number of a width has
abbrev pub bytes_in : Width → ℕ
bytes_in w = bits w / 8

-- the number in the bytes of a width that start at `at`, in two's complement; 0 where they are not all inside
unfoldable pub signed_at : Width → List ℕ → ℕ → ℤ
signed_at w s at = to_z w (unsigned_at (bytes_in w) s at)

-- s with k bytes in those that start at `at`; s itself where they are not all inside
abbrev pub placed_at : ℕ → List ℕ → ℕ → List ℕ → List ℕ
placed_at k s at bytes = cond (inside k s at) (take at s ++ bytes ++ drop (at + k) s) s

-- s with n in the k bytes that start at `at`; s itself where they are not all inside
unfoldable pub written_at : ℕ → List ℕ → ℕ → ℕ → List ℕ
written_at k s at n = placed_at k s at (bytes_of k n)

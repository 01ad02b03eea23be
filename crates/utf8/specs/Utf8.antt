-- UTF-8 as RFC 3629 defines it, with no reader: the encodings of a list of Unicode scalar values one after another.
-- Definitions only; what is proved of them is in Laws/Utf8.antt. Assumes nothing.
use Rattle.std.specs.Prelude.{◌≡◌, cond, List, [], ◌∷◌, ◌++◌, ◌⊎◌, ℕ, ◌+◌, ◌/◌, ◌%◌, ◌<◌, ◌≤◌, ltb}

-- a Unicode scalar value: at most 10FFFF, and not a surrogate, D800 to DFFF
pub record Scalar (n : ℕ) : Type 0 where
  pub at_most : n ≤ 0x10ffff
  pub no_surrogate : (n < 0xd800) ⊎ (0xdfff < n)

-- every element of the list is a scalar value
abbrev pub Scalars : List ℕ → Type 0
Scalars [] = Unit {0}
Scalars (n ∷ ns) = Scalar n × Scalars ns

-- a byte after the first: 10xxxxxx, with the lowest six bits of n
abbrev pub continuation : ℕ → ℕ
continuation n = 0x80 + n % 64

-- the bytes of one scalar value: one below 80, two below 800, three below 10000, else four (RFC 3629, section 3)
unfoldable pub encode : ℕ → List ℕ
encode n =
    cond (ltb n 0x80) (n ∷ [])
    (cond (ltb n 0x800) ((0xc0 + n / 64) ∷ continuation n ∷ [])
    (cond (ltb n 0x10000) ((0xe0 + n / 64 / 64) ∷ continuation (n / 64) ∷ continuation n ∷ [])
    ((0xf0 + n / 64 / 64 / 64) ∷ continuation (n / 64 / 64) ∷ continuation (n / 64) ∷ continuation n ∷ [])))

-- the bytes of each in turn, one after another
unfoldable pub encode_all : List ℕ → List ℕ
encode_all [] = []
encode_all (n ∷ ns) = encode n ++ encode_all ns

-- bytes are UTF-8 when they are the encodings of a list of scalar values
pub record Utf8 (bytes : List ℕ) : Type 0 where
  pub scalars : List ℕ
  pub valid : Scalars scalars
  pub encoded : bytes ≡ encode_all scalars

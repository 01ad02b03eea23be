-- The kinds and forms of bytes, the forms of numbers, and numbers written in blocks, for the code inside. No lemma stands here. Assumes
-- nothing.
use Rattle.std.specs.Prelude.{◌≡◌, Bool, true, false, not, List, ◌++◌, map, ℕ, ◌≤◌, length, take, drop, ℤ}
use Rattle.steps.specs.declared.Size.{Size}
use Rattle.steps.specs.declared.Size.TheVariants.{One, Two, Four}
use Rattle.steps.specs.declared.Range.TheVariants.{Int8, Int16, Int32, Ascii}
use Rattle.steps.specs.declared.Form.{Form}
use Rattle.steps.specs.declared.Form.TheVariants.{Plain, Packed, Runs, Names}
use Rattle.steps.specs.Numbers.{numbers_in}
use Rattle.payloads.specs.Results.{HasResults}
use Rattle.columns.specs.declared.Kind.{Kind}
use Rattle.columns.specs.declared.Kind.TheVariants as kind
use Rattle.decoding.specs.Calls.{as_number}

-- the kinds of columns of bytes
abbrev pub is_bytes : Kind → Bool
is_bytes kind.Float32 = false
is_bytes kind.FixedPoint = false
is_bytes kind.Int8 = false
is_bytes kind.Int16 = false
is_bytes kind.Int32 = false
is_bytes kind.Strings = true
is_bytes kind.Chars = true

-- the forms of bytes: names, and runs of characters
abbrev pub has_bytes : Form → Bool → Bool
has_bytes (Plain z) d = false
has_bytes (Packed z) d = false
has_bytes (Runs Int8) d = false
has_bytes (Runs Int16) d = false
has_bytes (Runs Int32) d = false
has_bytes (Runs Ascii) d = not d
has_bytes Names d = not d

-- the forms of numbers: no names, plain numbers without delta, and packed numbers of one and two bytes
abbrev pub is_written : Form → Bool → Bool
is_written (Plain z) d = not d
is_written (Packed One) d = true
is_written (Packed Two) d = true
is_written (Packed Four) d = false
is_written (Runs r) d = true
is_written Names d = false

-- a payload has plain numbers up to an index, and a buffer has room for all of them
abbrev pub HasPlain : Size → List ℕ → ℕ → ℕ → Type 0
HasPlain z s to room = (n : ℕ) × HasResults (Plain z) s n × (to ≤ n) × (n ≤ room)

-- the first i plain numbers of a payload stand at the start of a buffer that was `old`
abbrev pub PlainUpTo : Size → List ℕ → List ℤ → ℕ → List ℤ → Type 0
PlainUpTo z s old i new = new ≡ take i (map as_number (numbers_in z s)) ++ drop i old

-- the plain numbers from an index to another are written, where those before stand already
abbrev pub WrotePart : Size → List ℕ → ℕ → ℕ → List ℤ → List ℤ → Type 0
WrotePart z s from to before after = (old : List ℤ) → length old ≡ length before → PlainUpTo z s old from before → PlainUpTo z s old to after

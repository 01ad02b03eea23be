-- What one turn of unpacking does, and how names are tested. No lemma stands here. Assumes nothing.
use Rattle.std.specs.Prelude.{ℕ, ◌+◌, ◌*◌, ◌%◌, Bool, cond, ◌||◌, List, map, ℤ, pos, ◌+ℤ◌, ◌==◌, bit_and}
use Rattle.steps.specs.declared.Size.{Size}
use Rattle.steps.specs.declared.Turn.{Turn}
use Rattle.steps.specs.declared.Turn.TheVariants.{More, Done, Wrong}
use Rattle.steps.specs.Width.{upper, lower}
use Rattle.steps.specs.Packing.{is_limit, in32}
use Rattle.steps.specs.Payload.{padded_from}

-- one packed number more: the result goes on, is done, or is outside 32 bits
unfoldable pub turn_of : Size → ℤ → ℤ → Turn
turn_of z sum x = cond (in32 (sum +ℤ x)) (cond (is_limit (upper z) (lower z) x) (More (sum +ℤ x)) (Done (sum +ℤ x))) Wrong

-- whether one name is padded; names without a size are one name
abbrev pub one_name : List ℕ → Bool
one_name s = padded_from 0 0 (pos 0) (map pos s)

-- four bytes as one number, the first byte the lowest
abbrev pub word_of : ℕ → ℕ → ℕ → ℕ → ℕ
word_of a b c d = a + b * 256 + c * 65536 + d * 16777216

-- the highest bits of a word's bytes once 127 is added to each: of a byte below 128, whether it is not 0
abbrev pub marks_of : ℕ → ℕ
marks_of w = bit_and ((w + 2139062143) % 4294967296) 2155905152

-- whether the bytes that are not 0 come first
abbrev pub zeros_last : ℕ → Bool
zeros_last w = marks_of w == 0 || marks_of w == 128 || marks_of w == 32896 || marks_of w == 8421504 || marks_of w == 2155905152

-- A column of a named field: its refusals in their order (14 to 19), its length and its parameter. Names have 4 bytes there. No
-- lemma stands here: the laws are in Laws/Field.antt. Assumes nothing.
use Rattle.std.specs.Prelude.{ℕ, ◌/◌, Bool, false, cond, not, ◌&&◌, Option, Some, None, Result, Ok, Err, List, length, ℤ, ◌==◌, nat_le}
use Rattle.refusal.specs.Table.{header_range}
use Rattle.numbers.specs.BigEndian.{unsigned_at}
use Rattle.columns.specs.declared.Kind.{Kind}
use Rattle.columns.specs.declared.Wanted.{Wanted}
use Rattle.columns.specs.declared.Codec.{Codec}
use Rattle.columns.specs.Table.{codec_of, is_strings, suits, is_name_size}
use Rattle.columns.specs.Header.{header_size}
use Rattle.columns.specs.Decode.{Decoding, refused, column, decode}
use Rattle.file_columns.specs.declared.whole.Checked.{Checked}

-- the size of a name in a named field
abbrev pub field_name_size : ℕ
field_name_size = 4

-- whether a codec of the kind that is wanted has names, and the parameter m another size than that of named fields
abbrev pub other_size : Wanted → Option Codec → ℕ → Bool
other_size w None m = false
other_size w (Some c) m = suits w c.kind && (is_name_size c.parameter && not (m == field_name_size))

-- whether a column has names of another size than that of named fields: 14 and 15 come first
unfoldable pub other_names : Wanted → List ℕ → Bool
other_names w s = nat_le header_size (length s) && other_size w (codec_of (unsigned_at 4 s 0)) (unsigned_at 4 s 8)

-- a column of a named field: names of another size are 16, else it is as `decode` says
unfoldable pub field_column : Wanted → List ℕ → Decoding
field_column w s = cond (other_names w s) (refused header_range) (decode w s)

-- the length of a column of a named field: how many cells it has; of names, whose cells are bytes, how many names
abbrev pub length_of : Kind → List ℤ → ℕ
length_of k xs = cond (is_strings k) (length xs / field_name_size) (length xs)

-- a column that decodes, by its length and its parameter
abbrev pub checked_with : ℕ → ℕ → Result Checked ℕ
checked_with n m = Ok (record { length = n; parameter = m })

-- what a check answers: the length and the parameter, or the refusal
abbrev pub checked_of : Decoding → Result Checked ℕ
checked_of (refused r) = Err r
checked_of (column k m xs) = checked_with (length_of k xs) m

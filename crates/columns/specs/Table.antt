-- The sixteen codecs as one table: kind, form of the payload, whether delta follows, and what the parameter is. The range of a
-- codec's values is its form's (`range_of`). No lemma stands here: the laws are in Laws/Table.antt. Assumes nothing.
--
-- The letters here and in Header, Decode and Encode: w is what a caller wants, c a codec's number, k a kind, f a form, d whether delta
-- follows, p what the parameter is, n a column's length in results, m its parameter, e how many elements it has, b how many bytes its
-- payload has, s the column's bytes.
use Rattle.std.specs.Prelude.{Option, Some, None, Bool, true, false, ◌&&◌, List, [], ◌∷◌, ℕ, ◌*◌, ◌%◌, get_or, eqb, leb}
use Rattle.numbers.specs.Ranges.{integer_limit}
use Rattle.steps.specs.declared.Size.TheVariants.{One, Two, Four}
use Rattle.steps.specs.declared.Range.TheVariants as range
use Rattle.steps.specs.declared.Form.{Form}
use Rattle.steps.specs.declared.Form.TheVariants.{Plain, Packed, Runs, Names}
use Rattle.steps.specs.Width.{size_of}
use Rattle.columns.specs.declared.Kind.{Kind}
use Rattle.columns.specs.declared.Kind.TheVariants as kind
use Rattle.columns.specs.declared.Wanted.{Wanted}
use Rattle.columns.specs.declared.Wanted.TheVariants.{Only, Real, Any}
use Rattle.columns.specs.declared.Parameter.{Parameter}
use Rattle.columns.specs.declared.Parameter.TheVariants.{Unused, Divisor, NameSize}
use Rattle.columns.specs.declared.Codec.{Codec}

-- a codec by its kind, form, delta and parameter
abbrev pub codec_with : Kind → Form → Bool → Parameter → Option Codec
codec_with k f d p = Some (record { kind = k; form = f; delta = d; parameter = p })

-- the rows 0 to 16; there is no codec 0
abbrev pub table : List (Option Codec)
table =
    None
    ∷ codec_with kind.Float32 (Plain Four) false Unused
    ∷ codec_with kind.Int8 (Plain One) false Unused
    ∷ codec_with kind.Int16 (Plain Two) false Unused
    ∷ codec_with kind.Int32 (Plain Four) false Unused
    ∷ codec_with kind.Strings Names false NameSize
    ∷ codec_with kind.Chars (Runs range.Ascii) false Unused
    ∷ codec_with kind.Int32 (Runs range.Int32) false Unused
    ∷ codec_with kind.Int32 (Runs range.Int32) true Unused
    ∷ codec_with kind.FixedPoint (Runs range.Int32) false Divisor
    ∷ codec_with kind.FixedPoint (Packed Two) true Divisor
    ∷ codec_with kind.FixedPoint (Plain Two) false Divisor
    ∷ codec_with kind.FixedPoint (Packed Two) false Divisor
    ∷ codec_with kind.FixedPoint (Packed One) false Divisor
    ∷ codec_with kind.Int32 (Packed Two) false Unused
    ∷ codec_with kind.Int32 (Packed One) false Unused
    ∷ codec_with kind.Int8 (Runs range.Int8) false Unused
    ∷ []

-- the codec of a number
unfoldable pub codec_of : ℕ → Option Codec
codec_of c = get_or table c None

-- a number for each kind, to tell kinds apart, and for the table of columns in code
abbrev pub kind_tag : Kind → ℕ
kind_tag kind.Float32 = 0
kind_tag kind.FixedPoint = 1
kind_tag kind.Int8 = 2
kind_tag kind.Int16 = 3
kind_tag kind.Int32 = 4
kind_tag kind.Strings = 5
kind_tag kind.Chars = 6

-- whether two kinds are one
abbrev pub is_kind : Kind → Kind → Bool
is_kind k j = eqb (kind_tag k) (kind_tag j)

-- whether a kind is that of strings, whose cells are bytes; codec 5
abbrev pub is_strings : Kind → Bool
is_strings k = is_kind k kind.Strings

-- whether a kind has a divisor; codecs 9 to 13
abbrev pub divides : Kind → Bool
divides k = is_kind k kind.FixedPoint

-- paper 01's real columns: float32 and fixed point
abbrev pub is_real : Kind → Bool
is_real kind.Float32 = true
is_real kind.FixedPoint = true
is_real kind.Int8 = false
is_real kind.Int16 = false
is_real kind.Int32 = false
is_real kind.Strings = false
is_real kind.Chars = false

-- whether a kind is the one asked for
abbrev pub suits : Wanted → Kind → Bool
suits (Only k) j = is_kind k j
suits Real j = is_real j
suits Any j = true

-- the most results of a column
abbrev pub length_limit : ℕ
length_limit = 16777216

-- the most bytes of a name
abbrev pub name_limit : ℕ
name_limit = 255

-- whether a parameter is the size of names
abbrev pub is_name_size : Parameter → Bool
is_name_size Unused = false
is_name_size Divisor = false
is_name_size NameSize = true

-- a divisor is at least 1 (and a signed 32-bit number), a name's size 1 to 255; an unused parameter is not read
abbrev pub parameter_ok : Parameter → ℕ → Bool
parameter_ok Unused m = true
parameter_ok Divisor m = leb 1 m && leb m integer_limit
parameter_ok NameSize m = leb 1 m && leb m name_limit

-- the parameter as a codec uses it: 0 where the codec uses none, whatever stands there
abbrev pub used : Parameter → ℕ → ℕ
used Unused m = 0
used Divisor m = m
used NameSize m = m

-- whether a form is that of names
abbrev pub is_names : Form → Bool
is_names (Plain z) = false
is_names (Packed z) = false
is_names (Runs r) = false
is_names Names = true

-- the elements of a column of n results with the parameter m: a name has m
abbrev pub elements : Form → ℕ → ℕ → ℕ
elements (Plain z) n m = n
elements (Packed z) n m = n
elements (Runs r) n m = n
elements Names n m = n * m

-- Whether a payload of b bytes has the right size: plain numbers and names fill the length exactly, packed numbers are whole, and runs
-- are whole pairs of 32-bit numbers.
abbrev pub size_right : Form → ℕ → ℕ → ℕ → Bool
size_right (Plain z) n m b = eqb b (n * size_of z)
size_right (Packed z) n m b = eqb (b % size_of z) 0
size_right (Runs r) n m b = eqb (b % 8) 0
size_right Names n m b = eqb b (n * m)

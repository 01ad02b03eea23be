-- The fields of a file as lines: what each is, by the head of its value, and the header of a binary. No lemma stands here. Assumes nothing.
use Rattle.std.specs.Prelude.{cond, Option, Some, None, Result, Ok, Err, List, ℕ, ltb}
use Rattle.numbers.specs.BigEndian.{unsigned_at}
use Rattle.heads.specs.Head.{kind_at}
use Rattle.heads.specs.declared.Kind.{Kind}
use Rattle.columns.specs.declared.Header.{Header}
use Rattle.columns.specs.declared.Wanted.{Wanted}
use Rattle.columns.specs.Header.{header_of}
use Rattle.views.specs.Plain.{number_at, text_at, text_end}
use Rattle.lines.specs.declared.single.Sort.{Sort}
use Rattle.lines.specs.Single.{field_text}
use Rattle.commands.specs.declared.listing.What.{What}

-- a number, or none where 32 bits do not hold it
abbrev pub count_of : ℕ → Option ℕ
count_of n = cond (ltb n 0x1_0000_0000) (Some n) None

-- a value that is no column
abbrev pub what_of : Sort → Option ℕ → What
what_of sort length = record { sort = sort; codec = None; length = length }

-- a column of a codec, with so many cells
abbrev pub column_what : ℕ → Option ℕ → What
column_what codec length = record { sort = Sort.Column; codec = Some codec; length = length }

-- a binary: a column, if its header passes, with the codec that stands first in it, and its cells
abbrev pub binary_what : Result Header ℕ → List ℕ → Option ℕ → What
binary_what (Ok header) body length = column_what (unsigned_at 4 body 0) (count_of header.length)
binary_what (Err r) body length = what_of Sort.Binary length

-- a value by its kind: the number of its head is its length. No value of an accepted file is outside the subset or missing
abbrev pub kind_what : Kind → List ℕ → Option ℕ → What
kind_what Kind.Unsigned body length = what_of Sort.Integer None
kind_what Kind.Signed body length = what_of Sort.Integer None
kind_what Kind.Float body length = what_of Sort.Float None
kind_what Kind.Str body length = what_of Sort.String length
kind_what Kind.Bin body length = binary_what (header_of Wanted.Any body) body length
kind_what Kind.Array body length = what_of Sort.Array length
kind_what Kind.Map body length = what_of Sort.Map length
kind_what Kind.Outside body length = what_of Sort.Binary None
kind_what Kind.Missing body length = what_of Sort.Binary None

-- the value at a place
abbrev pub what_at : List ℕ → ℕ → What
what_at file at = kind_what (kind_at file at) (text_at file at) (count_of (number_at file at))

-- the line of the field whose key stands at a place: the value stands after the key
abbrev pub field_line : List ℕ → ℕ → List ℕ
field_line file key =
    field_text (text_at file key) (what_at file (text_end file key)).sort (what_at file (text_end file key)).codec (what_at file (text_end file key)).length

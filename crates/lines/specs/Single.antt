-- Single values as text: a field of a file, and a string. Integers and floats have the texts of Texts.antt. No lemma stands here: the laws are
-- in Laws/Single.antt. Assumes nothing.
use Rattle.std.specs.Prelude.{Option, Some, None, Bool, cond, ◌||◌, List, [], ◌∷◌, ◌++◌, ℕ, eqb, ltb}
use Rattle.text.specs.Ascii.{ascii}
use Rattle.text.specs.Decimal.{decimal}
use Rattle.lines.specs.Texts.{digits}
use Rattle.lines.specs.declared.single.Sort.{Sort}

-- is a byte below 32, or 127, or the mark?
abbrev pub breaks : ℕ → ℕ → Bool
breaks mark b = ltb b 32 || (eqb b 127 || eqb b mark)

-- a byte as it is, or as \xNN with two digits in base 16
abbrev pub byte_text : ℕ → ℕ → List ℕ
byte_text mark b = cond (breaks mark b) (ascii "\\x" ++ digits 16 2 b) (b ∷ [])

unfoldable pub escaped : ℕ → List ℕ → List ℕ
escaped mark [] = []
escaped mark (b ∷ s) = byte_text mark b ++ escaped mark s

-- a string: bytes below 32 and 127 as \xNN, everything else as it stands
abbrev pub string_text : List ℕ → List ℕ
string_text s = escaped 127 s

-- a name: its control characters and backslashes as \xNN
abbrev pub name_shown : List ℕ → List ℕ
name_shown s = escaped 92 s

-- a tab, and what a field is
abbrev pub sort_text : Sort → List ℕ
sort_text Sort.Integer = ascii "\tinteger"
sort_text Sort.Float = ascii "\tfloat"
sort_text Sort.String = ascii "\tstring"
sort_text Sort.Array = ascii "\tarray"
sort_text Sort.Map = ascii "\tmap"
sort_text Sort.Column = ascii "\tcolumn"
sort_text Sort.Binary = ascii "\tbinary"

-- a tab and a number, or - where there is none
abbrev pub count_text : Option ℕ → List ℕ
count_text (Some n) = ascii "\t" ++ decimal n
count_text None = ascii "\t-"

-- the line of a field: its name, what it is, its codec and its length
abbrev pub field_text : List ℕ → Sort → Option ℕ → Option ℕ → List ℕ
field_text name sort codec length = name_shown name ++ (sort_text sort ++ (count_text codec ++ (count_text length ++ ascii "\n")))

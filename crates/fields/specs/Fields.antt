-- The named fields of a file: each one's value, the set of those that are present, and the refusals 12, 13 and 24 in their order. No reader, no
-- place and no lemma stands here. Assumes nothing.
use Rattle.std.specs.Prelude.{◌≡◌, Bool, true, false, cond, ◌&&◌, List, [], ◌∷◌, ℕ, zero, suc, ◌+◌, ◌*◌, ◌≤◌, eqb, leb, ltb, get_or}
use Rattle.std.proofs.Math.Option.{Option, some, none as nothing}
use Prim.Native.String as Text
use Rattle.refusal.specs.Table.{accepted, field_missing, field_type, version_not1}
use Rattle.text.specs.Ascii.{ascii}
use Rattle.text.specs.Equal.{equal}
use Rattle.messagepack.specs.Document.{Document, Entries}
use Rattle.values.specs.Parts.{text_of, look}
use Rattle.fields.specs.Types.{FieldType, Rows, plain, last, row, Has, Fits}
use Rattle.fields.specs.Tests.{is_there, have, fitting}
use Rattle.fields.specs.Table.{named, field_count}

-- how many rows there are
unfoldable pub row_count : Rows → ℕ
row_count last = 0
row_count (row k q t rows) = suc (row_count rows)

-- the names of rows, in their order
unfoldable pub names_of : Rows → List (List ℕ)
names_of last = []
names_of (row k q t rows) = k ∷ names_of rows

-- the names of the named fields, in their order
unfoldable pub field_names : List (List ℕ)
field_names = names_of named

-- the first row with a name, by its place; the number of rows if there is none
unfoldable pub find_row : List ℕ → Rows → ℕ
find_row k last = 0
find_row k (row l q t rows) = cond (equal k l) 0 (suc (find_row k rows))

-- is a name that of a required row?
unfoldable pub is_required : List ℕ → Rows → Bool
is_required k last = false
is_required k (row l q t rows) = cond (equal k l) q (is_required k rows)

-- the type of the row with a name, if there is one
unfoldable pub type_under : List ℕ → Rows → Option FieldType
type_under k last = nothing
type_under k (row l q t rows) = cond (equal k l) (some t) (type_under k rows)

-- the value under the key of row i
unfoldable pub row_value : ℕ → Rows → Entries → Option Document
row_value i last es = nothing
row_value zero (row k q t rows) es = look k es
row_value (suc i) (row k q t rows) es = row_value i rows es

-- the number of a named field by its name; of another name the number of named fields
abbrev pub field_number : Text.String → ℕ
field_number name = find_row (ascii name) named

-- is a name that of a named field?
abbrev pub is_field : Text.String → Bool
is_field name = ltb (field_number name) field_count

-- the value under a name
abbrev pub field : Text.String → Entries → Option Document
field name es = look (ascii name) es

-- the value of the named field i
unfoldable pub field_at : ℕ → Entries → Option Document
field_at i es = row_value i named es

-- the type of row i, and past the last row a type that no document has
unfoldable pub type_in : ℕ → Rows → FieldType
type_in i last = plain 0
type_in zero (row k q t rows) = t
type_in (suc i) (row k q t rows) = type_in i rows

-- the type of the named field i
unfoldable pub field_type_of : ℕ → FieldType
field_type_of i = type_in i named

-- is row i required?
unfoldable pub required_in : ℕ → Rows → Bool
required_in i last = false
required_in zero (row k q t rows) = q
required_in (suc i) (row k q t rows) = required_in i rows

-- which of the rows' keys are there
unfoldable pub present : Rows → Entries → List Bool
present last es = []
present (row k q t rows) es = is_there (look k es) ∷ present rows es

-- one bit of a set
abbrev pub bit : Bool → ℕ
bit true = 1
bit false = 0

-- a set as a number with one bit for each: bit i, 2^i, is of the one with number i
unfoldable pub set_of : List Bool → ℕ
set_of [] = 0
set_of (b ∷ bs) = bit b + set_of bs * 2

-- the set of the named fields that are present
unfoldable pub presence_of : Entries → ℕ
presence_of es = set_of (present named es)

-- how many are in a set
unfoldable pub member_count : List Bool → ℕ
member_count [] = 0
member_count (b ∷ bs) = bit b + member_count bs

-- how many named fields are present
unfoldable pub present_count : Entries → ℕ
present_count es = member_count (present named es)

-- the bytes of a value that is a string or a binary; of another, or where there is none, no bytes
abbrev pub text_in : Option Document → List ℕ
text_in (some x) = text_of x
text_in nothing = []

-- the text of mmtfVersion
abbrev pub version_of : Entries → List ℕ
version_of es = text_in (field "mmtfVersion" es)

-- the major version is 1: the text begins with "1." and a digit
pub record VersionOne (t : List ℕ) : Type 0 where
  pub digit : ℕ
  pub rest : List ℕ
  pub is : t ≡ 0x31 ∷ 0x2e ∷ digit ∷ rest
  pub low : 0x30 ≤ digit
  pub high : digit ≤ 0x39

-- is the major version 1?
unfoldable pub is_version_one : List ℕ → Bool
is_version_one t = eqb (get_or t 0 0) 0x31 && (eqb (get_or t 1 0) 0x2e && (leb 0x30 (get_or t 2 0) && leb (get_or t 2 0) 0x39))

-- the required fields are there, each named field that is there has its type, and the major version is 1
pub record FieldsRight (es : Entries) : Type 0 where
  pub has : Has named es
  pub fits : Fits named es
  pub version : VersionOne (version_of es)

-- 12 over all required fields, then 13 over all named fields, then 24
unfoldable pub fields_number : Entries → ℕ
fields_number es = cond (have named es) (cond (fitting named es) (cond (is_version_one (version_of es)) accepted version_not1) field_type) field_missing

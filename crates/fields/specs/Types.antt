-- Types of fields, and when a document has one (paper 01, "Fields, in order"). The contracts of this crate and the acceptance of a file cite
-- it. No reader, no place and no lemma stands here. Assumes nothing.
use Rattle.std.specs.Prelude.{◌≡◌, Bool, true, false, List, ℕ}
use Rattle.std.proofs.Math.Option.{some}
use Prim.Native.String as Text
use Rattle.text.specs.Ascii.{ascii}
use Rattle.messagepack.specs.Document.{Document, Documents, Entries, integer, float, string, binary, array, map, none, item, count}
use Rattle.values.specs.Parts.{look}

-- a type: a value of one kind, an array of values of a type, an array of exactly so many of them, or a map with named keys
mutual
  pub data FieldType : Type 0 where
    plain : ℕ → FieldType
    array_of : FieldType → FieldType
    exactly : ℕ → FieldType → FieldType
    map_with : Rows → FieldType

  -- the keys that are named: the bytes of a name, whether it is required, and the type of its value
  pub data Rows : Type 0 where
    last : Rows
    row : List ℕ → Bool → FieldType → Rows → Rows

-- the kind of a document: 1 an integer, 2 a float, 3 a string, 4 a binary, 5 an array, 6 a map
abbrev pub document_kind : Document → ℕ
document_kind (integer v) = 1
document_kind (float bits) = 2
document_kind (string t) = 3
document_kind (binary t) = 4
document_kind (array ds) = 5
document_kind (map es) = 6

abbrev pub an_integer : FieldType
an_integer = plain 1

abbrev pub a_float : FieldType
a_float = plain 2

abbrev pub a_string : FieldType
a_string = plain 3

abbrev pub a_binary : FieldType
a_binary = plain 4

-- a required key and an optional one, before other rows
abbrev pub required : Text.String → FieldType → Rows → Rows
required name t rows = row (ascii name) true t rows

abbrev pub optional : Text.String → FieldType → Rows → Rows
optional name t rows = row (ascii name) false t rows

infixr 20 ◌then◌
abbrev pub ◌then◌ : (Rows → Rows) → Rows → Rows
f then rows = f rows

-- each value of an array
unfoldable pub Each : (Document → Type 0) → Documents → Type 0
Each P none = Unit {0}
Each P (item d ds) = P d × Each P ds

-- each required key is there
unfoldable pub Has : Rows → Entries → Type 0
Has last es = Unit {0}
Has (row k true t rows) es = (record { x : Document; is : look k es ≡ some x }) × Has rows es
Has (row k false t rows) es = Has rows es

-- a document has a type
unfoldable mutual
  pub HasType : FieldType → Document → Type 0
  HasType (plain k) x = document_kind x ≡ k
  HasType (array_of t) x = record { values : Documents; is : x ≡ array values; each : Each (λ d. HasType t d) values }
  HasType (exactly n t) x = record { values : Documents; is : x ≡ array values; many : count values ≡ n; each : Each (λ d. HasType t d) values }
  HasType (map_with rows) x = record { entries : Entries; is : x ≡ map entries; has : Has rows entries; fits : Fits rows entries }

  -- each named key that is there has its type
  pub Fits : Rows → Entries → Type 0
  Fits last es = Unit {0}
  Fits (row k q t rows) es = ((x : Document) → look k es ≡ some x → HasType t x) × Fits rows es

-- The columns among the named fields, in field order: of which kind each is, and what it has an entry for (paper 01, "Fields, in order" and
-- rule 4 of "Counts that must agree"). No reader, no place and no lemma stands here. Assumes nothing.
use Rattle.std.specs.Prelude.{◌≡◌, ℕ, Bool, true, ◌&&◌, List, [], ◌∷◌, ℤ, ◌==◌}
use Rattle.std.specs.Prelude.{Option as Answer, Some, None}
use Rattle.std.proofs.Math.Option.{Option, some, none as nothing}
use Prim.Native.String as Text
use Rattle.refusal.specs.Table.{accepted}
use Rattle.refusal.specs.First.{or_else}
use Rattle.messagepack.specs.Document.{Document, Entries}
use Rattle.values.specs.Parts.{text_of}
use Rattle.fields.specs.Fields.{field}
use Rattle.columns.specs.declared.Kind.{Kind}
use Rattle.columns.specs.declared.Kind.TheVariants.{Int8, Int32, Strings, Chars}
use Rattle.columns.specs.declared.Wanted.{Wanted}
use Rattle.columns.specs.declared.Wanted.TheVariants.{Only, Real}
use Rattle.columns.specs.Decode.{Decoding, refused, column}
use Rattle.file_columns.specs.Field.{field_column, length_of}

-- what a column has one entry for: an atom, a group or a chain; the columns of bonds are counted by rule 8
pub data Level : Type 0 where
  atom : Level
  group : Level
  chain : Level
  bond : Level

-- a named column: its field, the kind that it must be of, and what it has one entry for
pub record Column : Type 0 where
  pub name : Text.String
  pub kind : Wanted
  pub level : Level

abbrev pub column_of : Text.String → Wanted → Level → Column
column_of n k l = record { name = n; kind = k; level = l }

-- the columns, in field order (paper 01: real, whole, small, names, letters)
abbrev pub columns : List Column
columns =
    column_of "xCoordList" Real atom
    ∷ column_of "yCoordList" Real atom
    ∷ column_of "zCoordList" Real atom
    ∷ column_of "groupIdList" (Only Int32) group
    ∷ column_of "groupTypeList" (Only Int32) group
    ∷ column_of "chainIdList" (Only Strings) chain
    ∷ column_of "bondAtomList" (Only Int32) bond
    ∷ column_of "bondOrderList" (Only Int8) bond
    ∷ column_of "bFactorList" Real atom
    ∷ column_of "atomIdList" (Only Int32) atom
    ∷ column_of "altLocList" (Only Chars) atom
    ∷ column_of "occupancyList" Real atom
    ∷ column_of "secStructList" (Only Int8) group
    ∷ column_of "insCodeList" (Only Chars) group
    ∷ column_of "sequenceIdList" (Only Int32) group
    ∷ column_of "chainNameList" (Only Strings) chain
    ∷ []

-- what the value of a column's field decodes to
abbrev pub decoded : Wanted → Document → Decoding
decoded w x = field_column w (text_of x)

-- a column that is there is of its kind and decodes
abbrev pub ColumnRight : Wanted → Option Document → Type 0
ColumnRight w nothing = Unit {0}
ColumnRight w (some x) = record { k : Kind; m : ℕ; cells : List ℤ; is : decoded w x ≡ column k m cells }

-- each of some columns that is there
abbrev pub AllRight : List Column → Entries → Type 0
AllRight [] es = Unit {0}
AllRight (c ∷ cs) es = ColumnRight c.kind (field c.name es) × AllRight cs es

-- the refusal of a column that is there, or 0
abbrev pub decoding_number : Decoding → ℕ
decoding_number (refused r) = r
decoding_number (column k m xs) = accepted

abbrev pub column_number : Wanted → Option Document → ℕ
column_number w nothing = accepted
column_number w (some x) = decoding_number (decoded w x)

-- the refusal of the first of some columns that has one, or 0
unfoldable pub first_number : List Column → Entries → ℕ
first_number [] es = accepted
first_number (c ∷ cs) es = or_else (column_number c.kind (field c.name es)) (first_number cs es)

-- 14 to 19 over the columns of a file
abbrev pub columns_number : Entries → ℕ
columns_number es = first_number columns es

-- the cells of a column that is there
abbrev pub cells_of : Decoding → List ℤ
cells_of (refused r) = []
cells_of (column k m xs) = xs

abbrev pub cells_in : Wanted → Option Document → Option (List ℤ)
cells_in w nothing = nothing
cells_in w (some x) = some (cells_of (decoded w x))

-- how many entries a column has, if it is there
abbrev pub length_in : Decoding → ℕ
length_in (refused r) = 0
length_in (column k m xs) = length_of k xs

abbrev pub column_length : Wanted → Option Document → Answer ℕ
column_length w nothing = None
column_length w (some x) = Some (length_in (decoded w x))

-- a column's length, and what the column has one entry for
pub record Measured : Type 0 where
  pub level : Level
  pub entries : Answer ℕ

-- the lengths of some columns of a file
unfoldable pub lengths_in : List Column → Entries → List Measured
lengths_in [] es = []
lengths_in (c ∷ cs) es = record { level = c.level; entries = column_length c.kind (field c.name es) } ∷ lengths_in cs es

-- the lengths of all columns of a file
abbrev pub lengths_of : Entries → List Measured
lengths_of es = lengths_in columns es

-- has a column, if it is there, n entries?
abbrev pub has_entries : ℕ → Answer ℕ → Bool
has_entries n None = true
has_entries n (Some l) = l == n

-- has a column as many entries as there are atoms, groups or chains, by its level? Of bonds it may have any number.
abbrev pub fits_level : Level → ℕ → ℕ → ℕ → Answer ℕ → Bool
fits_level atom atoms groups chains l = has_entries atoms l
fits_level group atoms groups chains l = has_entries groups l
fits_level chain atoms groups chains l = has_entries chains l
fits_level bond atoms groups chains l = true

-- has each column the length that it must have in a file of so many atoms, groups and chains?
unfoldable pub lengths_fit : List Measured → ℕ → ℕ → ℕ → Bool
lengths_fit [] atoms groups chains = true
lengths_fit (m ∷ ms) atoms groups chains = fits_level m.level atoms groups chains m.entries && lengths_fit ms atoms groups chains

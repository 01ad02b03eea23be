-- What the functions inside this crate say of the places of a file's named fields, and the table of columns by numbers. No lemma stands here.
-- Assumes nothing.
use Rattle.std.specs.Prelude.{◌≡◌, ℕ, cond, List, map, ◌==◌, ◌≢◌, slice_index_or}
use Rattle.std.specs.Prelude.{Option as Answer}
use Rattle.std.proofs.Math.Option.{Option}
use Rattle.messagepack.specs.Document.{Document, Entries}
use Rattle.values.specs.Walked.{WalkedBy, WalkedPlace}
use Rattle.values.specs.Integers.{list_in}
use Rattle.fields.specs.Fields.{field_number}
use Rattle.fields.specs.Noted.{PlacesOf}
use Rattle.columns.specs.declared.Wanted.{Wanted}
use Rattle.columns.specs.declared.Wanted.TheVariants.{Only, Real, Any}
use Rattle.columns.specs.declared.Kind.TheVariants.{Int8, Int32, Strings, Chars}
use Rattle.columns.specs.Table.{kind_tag}
use Rattle.file_columns.specs.Cells.{sums_over}
use Rattle.file_columns.specs.Passing.{Hold}
use Rattle.file_columns.specs.declared.whole.Sums.{Sums}
use Rattle.file_columns.specs.Columns.{Column, Level, atom, group, chain, bond, columns, column_of, ColumnRight, AllRight, cells_in}

-- a promise on a walked file by its entries, of which the named fields stand at their places
abbrev pub WalkedFields : List ℕ → List ℕ → (Entries → Type 0) → Type 0
WalkedFields file places P = WalkedBy (λ es. PlacesOf file es places) P

-- a promise on a walked file of which the columns decode
abbrev pub WalkedColumns : List ℕ → List ℕ → (Entries → Type 0) → Type 0
WalkedColumns file places P = WalkedFields file places (λ es. AllRight columns es → P es)

-- a promise on a walked file by the column of a kind at a place, which decodes if it is there
abbrev pub WalkedColumn : List ℕ → ℕ → Wanted → (Option Document → Type 0) → Type 0
WalkedColumn file at w P = WalkedPlace file at (λ o. ColumnRight w o → P o)

-- how many columns are named
abbrev pub column_count : ℕ
column_count = 16

-- the columns by numbers, as the code goes through them: the field of each
abbrev pub field_numbers : List ℕ
field_numbers = map (λ (c : Column). field_number c.name) columns

-- the kind that each column must be of: a single kind by its `kind_tag`, and 0 for a real column of either kind
abbrev pub wanted_number : Wanted → ℕ
wanted_number (Only k) = kind_tag k
wanted_number Real = 0
wanted_number Any = 0

abbrev pub wanted_numbers : List ℕ
wanted_numbers = map (λ (c : Column). wanted_number c.kind) columns

abbrev pub wanted_from : ℕ → Wanted
wanted_from n = cond (n == 0) Real (cond (n == kind_tag Int8) (Only Int8) (cond (n == kind_tag Int32) (Only Int32) (cond (n == kind_tag Strings) (Only Strings) (Only Chars))))

-- what each column has one entry for, by a number
abbrev pub level_number : Level → ℕ
level_number atom = 0
level_number group = 1
level_number chain = 2
level_number bond = 3

abbrev pub level_numbers : List ℕ
level_numbers = map (λ (c : Column). level_number c.level) columns

abbrev pub level_from : ℕ → Level
level_from n = cond (n == 0) atom (cond (n == 1) group (cond (n == 2) chain bond))

-- column i, in field order
abbrev pub column_at : ℕ → Column
column_at i = slice_index_or columns i (column_of "" Real bond)

-- the sums of two tables over the cells of the int32 column at a place, where it is there and decodes, and the tables have an entry for each type
abbrev pub TotalsIn : ℕ → ℕ → List ℕ → List ℕ → Option Document → Answer Sums → Type 0
TotalsIn at types atoms bonds o r =
    (at ≢ 0) → ColumnRight (Only Int32) o → Hold types atoms bonds → r ≡ sums_over types atoms bonds (list_in (cells_in (Only Int32) o))

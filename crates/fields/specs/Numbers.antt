-- The types and the rows of Table.antt by numbers, as the code goes through them: one table of bytes, and what is read from it. That the
-- types so read are those of Table.antt is in Laws/Numbers.antt. For the code inside. No lemma stands here. Assumes nothing.
use Rattle.std.specs.Prelude.{Bool, true, cond, not, ◌&&◌, ◌||◌, List, [], ◌∷◌, ◌++◌, ℕ, zero, suc, ◌+◌, ◌*◌, ◌/◌, ◌%◌, ◌^◌, eqb, ltb, length, get_or, drop}
use Rattle.std.specs.Int.Bits.{bit_or}
use Rattle.text.specs.Equal.{equal}
use Rattle.heads.specs.Table.{values_from}
use Rattle.messagepack.specs.Document.{Document}
use Rattle.fields.specs.Types.{FieldType, Rows, plain, array_of, exactly, map_with, last, row}
use Rattle.fields.specs.Table.{group_rows, transform_rows, assembly_rows, entity_rows, named}
use Rattle.fields.specs.Tests.{typed}
use Rattle.fields.specs.Fields.{bit}

-- how many types have a number
abbrev pub code_count : ℕ
code_count = 17

-- three bytes for each: 0 a value of a kind, 1 an array of values of a kind, 2 an array of exactly so many, 3 an array of values of a type,
-- 4 a map; then how many values or rows; then the kind, the type or the first row
abbrev pub type_cells : List ℕ
type_cells =
    -- 0 an integer, 1 a float, 2 a string, 3 a binary
    0 ∷ 0 ∷ 1 ∷ 0 ∷ 0 ∷ 2 ∷ 0 ∷ 0 ∷ 3 ∷ 0 ∷ 0 ∷ 4
    -- 4 integers, 5 strings, 6 six floats, 7 sixteen floats, 8 arrays of sixteen floats
    ∷ 1 ∷ 0 ∷ 1 ∷ 1 ∷ 0 ∷ 3 ∷ 2 ∷ 6 ∷ 2 ∷ 2 ∷ 16 ∷ 2 ∷ 3 ∷ 0 ∷ 7
    -- 9 a group type, 10 groupList, 11 a transform, 12 transformList
    ∷ 4 ∷ 8 ∷ 0 ∷ 3 ∷ 0 ∷ 9 ∷ 4 ∷ 2 ∷ 8 ∷ 3 ∷ 0 ∷ 11
    -- 13 an assembly, 14 bioAssemblyList, 15 an entity, 16 entityList
    ∷ 4 ∷ 2 ∷ 10 ∷ 3 ∷ 0 ∷ 13 ∷ 4 ∷ 4 ∷ 12 ∷ 3 ∷ 0 ∷ 15
    ∷ []

-- a name in so many bytes, with dots after it
abbrev pub dotted : ℕ → List ℕ → List ℕ
dotted zero k = []
dotted (suc n) [] = 0x2e ∷ dotted n []
dotted (suc n) (b ∷ k) = b ∷ dotted n k

-- 22 bytes for each row: the length of its name, 1 if it is required, the number of its type, and its name
unfoldable pub row_cells : Rows → List ℕ → List ℕ
row_cells last codes = []
row_cells (row k q t rows) codes = (length k ∷ bit q ∷ get_or codes 0 0 ∷ dotted 19 k) ++ row_cells rows (drop 1 codes)

-- the place of a name's hint, by the first row of its map
unfoldable pub hint_place : ℕ → List ℕ → ℕ
hint_place first k = (get_or k 0 0 * 24 + get_or k 3 0 * 10 + length k % 128 + first * 31) % 128

-- the hint at a place: the row of a map's name that has its place there, counted from the first, or the rest's
unfoldable pub row_hint : ℕ → Rows → ℕ → ℕ → ℕ → ℕ
row_hint first last i place rest = rest
row_hint first (row k q t rows) i place rest = cond (eqb (hint_place first k) place) i (row_hint first rows (suc i) place rest)

-- the hints: for each place the row of the name that has its hint there, counted from the first of its map; 255 of none
unfoldable pub hint_cells : List ℕ
hint_cells = values_from (λ place. row_hint 0 group_rows 0 place (row_hint 8 transform_rows 0 place (row_hint 10 assembly_rows 0 place (row_hint 12 entity_rows 0 place (row_hint 16 named 0 place 255))))) 0 128

-- the whole table: the types, the rows of the inner maps, the named fields from row 16 on, and the hints
unfoldable pub type_table : List ℕ
type_table =
    type_cells
    ++ (row_cells group_rows (2 ∷ 2 ∷ 2 ∷ 4 ∷ 5 ∷ 5 ∷ 4 ∷ 4 ∷ [])
    ++ (row_cells transform_rows (4 ∷ 7 ∷ [])
    ++ (row_cells assembly_rows (2 ∷ 12 ∷ [])
    ++ (row_cells entity_rows (4 ∷ 2 ∷ 2 ∷ 2 ∷ [])
    ++ (row_cells named (2 ∷ 2 ∷ 0 ∷ 0 ∷ 0 ∷ 0 ∷ 0 ∷ 10 ∷ 3 ∷ 3 ∷ 3 ∷ 3 ∷ 3 ∷ 3 ∷ 4 ∷ 4 ∷ 3 ∷ 3 ∷ 3 ∷ 3 ∷ 3 ∷ 3 ∷ 3 ∷ 3 ∷ 3 ∷ 3 ∷ 2 ∷ 2 ∷ 2 ∷ 2 ∷ 2 ∷ 1 ∷ 1 ∷ 1 ∷ 6 ∷ 5 ∷ 8 ∷ 14 ∷ 16 ∷ []) ++ hint_cells)))))

-- the row of the first named field
abbrev pub first_field : ℕ
first_field = 16

-- a byte of the table, 0 past its end
unfoldable pub table_byte : ℕ → ℕ
table_byte i = get_or type_table i 0

-- the three numbers of a type
abbrev pub tag_of : ℕ → ℕ
tag_of c = table_byte (c * 3)

abbrev pub many_of : ℕ → ℕ
many_of c = table_byte (c * 3 + 1) % 64

abbrev pub inside_of : ℕ → ℕ
inside_of c = table_byte (c * 3 + 2)

-- where a row starts
abbrev pub row_at : ℕ → ℕ
row_at r = r * 22 + code_count * 3

-- a row's name, whether it is required, and the number of its type
unfoldable pub name_of : ℕ → List ℕ
name_of r = values_from (λ j. table_byte (row_at r + 3 + j)) 0 (table_byte (row_at r))

abbrev pub need_of : ℕ → Bool
need_of r = eqb (table_byte (row_at r + 1)) 1

abbrev pub code_of : ℕ → ℕ
code_of r = table_byte (row_at r + 2)

-- n rows from r on, with types by f
unfoldable pub rows_from : (ℕ → FieldType) → ℕ → ℕ → Rows
rows_from f zero r = last
rows_from f (suc n) r = row (name_of r) (need_of r) (f (code_of r)) (rows_from f n (r + 1))

-- how many rows there are
abbrev pub all_rows : ℕ
all_rows = 55

-- the hint of a name, by the first row of its map
unfoldable pub hint_of : ℕ → List ℕ → ℕ
hint_of first k = table_byte (row_at all_rows + hint_place first k)

-- are there n rows from the first on, and have their names their own rows as hints?
unfoldable pub hinted : ℕ → ℕ → Bool
hinted zero first = true
hinted (suc n) first = (ltb (first + n) all_rows && eqb (hint_of first (name_of (first + n))) n) && hinted n first

-- a type by its three numbers, with the types inside by f
abbrev pub build : (ℕ → FieldType) → ℕ → ℕ → ℕ → FieldType
build f zero many inside = plain inside
build f (suc zero) many inside = array_of (plain inside)
build f (suc (suc zero)) many inside = exactly many (plain inside)
build f (suc (suc (suc zero))) many inside = array_of (f inside)
build f (suc (suc (suc (suc tag)))) many inside = map_with (rows_from f many inside)

-- the type of a number, of at most so many levels; no document has the type 0
unfoldable pub type_of : ℕ → ℕ → FieldType
type_of zero c = plain 0
type_of (suc d) c = cond (ltb c code_count) (build (type_of d) (tag_of c) (many_of c) (inside_of c)) (plain 0)

-- the levels of the deepest type
abbrev pub type_depth : ℕ
type_depth = 5

-- has the document the type of row i? No row asks nothing
unfoldable pub row_test : ℕ → Rows → Document → Bool
row_test i last x = true
row_test zero (row k q t rows) x = typed t x
row_test (suc i) (row k q t rows) x = row_test i rows x

-- are the bits of the required rows in a set?
unfoldable pub covered : Rows → ℕ → Bool
covered last seen = true
covered (row k q t rows) seen = (not q || eqb (seen % 2) 1) && covered rows (seen / 2)

-- the set with i in it, if i is below n
abbrev pub marked : ℕ → ℕ → ℕ → ℕ
marked n seen i = cond (ltb i n) (bit_or seen (2 ^ i)) seen

-- is a row required, and the lowest bit of a set not there?
abbrev pub lacking : ℕ → ℕ → Bool
lacking need seen = eqb need 1 && not (eqb (seen % 2) 1)

-- has none of the rows a name?
unfoldable pub new_name : List ℕ → Rows → Bool
new_name k last = true
new_name k (row l q t rows) = not (equal k l) && new_name k rows

-- are the names of the rows different?
unfoldable pub distinct_names : Rows → Bool
distinct_names last = true
distinct_names (row k q t rows) = new_name k rows && distinct_names rows

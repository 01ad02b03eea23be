-- The table of numbers says what Table.antt says, and what is read from it.
-- Assumes nothing.
use Rattle.std.specs.Prelude.{◌≡◌, Bool, ◌&&◌, ◌||◌, List, eqb, leb, ltb, length, get_or, take, drop}
use Rattle.std.proofs.Math.Path.{refl, ap}
use Rattle.std.proofs.Common.{sym, ◌∙◌, add-zero, ext_get_or, get_or-take, get_or-drop, leb-true, eqb-true, ltb-true, ltb-false, lt-ltb, le-ltb}
use Rattle.std.proofs.Math.Bool.{true, false, cond, not}
use Prim.Native.Nat.{ℕ, zero, suc, ◌+◌, ◌-◌, ◌*◌, ◌/◌, ◌%◌, ◌^◌, ◌<◌, ◌≤◌}
use native.Mathlib.Omega.{arith}
use Rattle.std.proofs.Math.Nat.{sub-zero}
use Rattle.numbers.specs.Laws.Tests.{clash, and_left, and_right}
use Rattle.text.specs.Equal.{equal}
use Rattle.text.specs.Laws.Equal.{equal-true, false-equal, equal-lengths}
use Rattle.std.proofs.lemmas.Bool.{eqb-false}
use Rattle.heads.proofs.Laws.Table.{rows_at, values_length}
use Rattle.heads.proofs.Laws.Span.{part_length_lem}
use Rattle.messagepack.specs.Document.{Document}
use Rattle.fields.specs.Types.{FieldType, Rows, plain, array_of, map_with, last, row}
use Rattle.fields.specs.Table.{group_rows, transform_rows, assembly_rows, entity_rows, named, field_count}
use Rattle.fields.specs.Tests.{typed}
use Rattle.fields.specs.Fields.{type_in, find_row, row_count}
use Rattle.fields.specs.Numbers.{row_cells, hint_place, row_hint, hint_cells, all_rows, hint_of, hinted, type_table, tag_of, many_of, inside_of, row_at, name_of, need_of, code_of, rows_from, build, type_of, code_count, type_depth, first_field, row_test, covered, new_name, distinct_names, lacking, table_byte}

-- computed over the whole table
pub named-is : rows_from (type_of type_depth) field_count first_field ≡ named
unfolding row_cells type_table table_byte name_of rows_from type_of named group_rows transform_rows assembly_rows entity_rows
named-is = refl

pub table-length : length type_table ≡ row_at (first_field + field_count) + 128
unfolding row_cells hint_cells type_table named group_rows transform_rows assembly_rows entity_rows
table-length = refl

-- the names of the fields are different
pub named-distinct : distinct_names named ≡ true
unfolding distinct_names new_name equal named
named-distinct = refl

-- a row's name, byte by byte

name-length : (r : ℕ) → length (name_of r) ≡ table_byte (row_at r)
unfolding name_of
name-length r = values_length (λ j. table_byte (row_at r + 3 + j)) 0 (table_byte (row_at r))

name-byte : (r i : ℕ) → i < table_byte (row_at r) → get_or (name_of r) i 0 ≡ table_byte (row_at r + 3 + i)
unfolding name_of
name-byte r i lt = rows_at (λ j. table_byte (row_at r + 3 + j)) (table_byte (row_at r)) i lt

pub name-long : (s : List ℕ) (a m r : ℕ) → a + m ≤ length s → (m ≡ table_byte (row_at r) → ⊥) → equal (take m (drop a s)) (name_of r) ≡ false
name-long s a m r fits h = equal-lengths (take m (drop a s)) (name_of r) (λ e. h (sym (part_length_lem s a m fits) ∙ e ∙ name-length r))

-- the first of n rows, and those after it

pub rows-first : (f : ℕ → FieldType) (n r : ℕ) → 0 < n → rows_from f n r ≡ row (name_of r) (need_of r) (f (code_of r)) (rows_from f (n - 1) (r + 1))
unfolding rows_from
rows-first f zero r h = absurd (omega arith)
rows-first f (suc n) r h = let e : suc n - 1 ≡ n = omega arith in rw e

pub rows_none : (f : ℕ → FieldType) (n r : ℕ) → n ≤ 0 → rows_from f n r ≡ last
unfolding rows_from
rows_none f zero r h = refl
rows_none f (suc n) r h = absurd (omega arith)

-- the rows from i on, of n from r on
abbrev pub rows_left : (ℕ → FieldType) → ℕ → ℕ → ℕ → Rows
rows_left f n r i = rows_from f (n - i) (r + i)

module _ (f : ℕ → FieldType) (n r i : ℕ) where
  left-first : i < n → rows_left f n r i ≡ row (name_of (r + i)) (need_of (r + i)) (f (code_of (r + i))) (rows_left f n r (i + 1))
  left-first lt =
      let e : n - i - 1 ≡ n - (i + 1) = omega arith in
      let g : r + i + 1 ≡ r + (i + 1) = omega arith in
      rows-first f (n - i) (r + i) (omega arith) ∙ rw (e, g)

  -- the required rows that are seen, row by row
  pub covered_next : (seen : ℕ) → i < n → lacking (table_byte (row_at (r + i) + 1)) seen ≡ false → covered (rows_left f n r i) seen ≡ covered (rows_left f n r (i + 1)) (seen / 2)
  unfolding covered
  covered_next seen lt e = rw (left-first lt) (go (need_of (r + i)) (eqb (seen % 2) 1) (covered (rows_left f n r (i + 1)) (seen / 2)) e)
    where
      go : (p q c : Bool) → p && not q ≡ false → (not p || q) && c ≡ c
      go true true c e = refl
      go true false c e = clash (sym e)
      go false q c e = refl

  pub covered-not : (seen : ℕ) → i < n → lacking (table_byte (row_at (r + i) + 1)) seen ≡ true → covered (rows_left f n r i) seen ≡ false
  unfolding covered
  covered-not seen lt e = rw (left-first lt) (go (need_of (r + i)) (eqb (seen % 2) 1) (covered (rows_left f n r (i + 1)) (seen / 2)) e)
    where
      go : (p q c : Bool) → p && not q ≡ true → (not p || q) && c ≡ false
      go true true c e = clash e
      go true false c e = refl
      go false q c e = clash e

  pub covered_none : (seen : ℕ) → n ≤ i → covered (rows_left f n r i) seen ≡ true
  unfolding covered
  covered_none seen le = rw (rows_none f (n - i) (r + i) (omega arith))

pub left-all : (f : ℕ → FieldType) (n r : ℕ) → rows_from f n r ≡ rows_left f n r 0
left-all f n r = rw (add-zero r, sub-zero n)

-- how many rows there are, and a row's type by its number

pub rows-count : (f : ℕ → FieldType) (n r : ℕ) → row_count (rows_from f n r) ≡ n
unfolding row_count rows_from
rows-count f zero r = refl
rows-count f (suc n) r = ap suc (rows-count f n (r + 1))

-- the set of all rows has the required ones
pub power-positive : (n : ℕ) → 0 < 2 ^ n
power-positive zero = omega arith
power-positive (suc n) = let h = power-positive n in omega arith

pub covered-all : (f : ℕ → FieldType) (n r seen : ℕ) → seen + 1 ≡ 2 ^ n → covered (rows_from f n r) seen ≡ true
unfolding covered rows_from
covered-all f zero r seen e = refl
covered-all f (suc n) r seen e =
    let odd : seen % 2 ≡ 1 = omega arith in
    let half : seen / 2 + 1 ≡ 2 ^ n = omega arith in
    rw (odd, covered-all f n (r + 1) (seen / 2) half) (or-true (not (need_of r)))
  where
    or-true : (b : Bool) → (b || true) && true ≡ true
    or-true true = refl
    or-true false = refl

pub row_typed : (f : ℕ → FieldType) (n r i : ℕ) (x : Document) → i < n → row_test i (rows_from f n r) x ≡ typed (f (code_of (r + i))) x
unfolding row_test rows_from
row_typed f zero r i x lt = absurd (omega arith)
row_typed f (suc n) r zero x lt = rw (add-zero r)
row_typed f (suc n) r (suc i) x lt = let e : r + 1 + i ≡ r + suc i = omega arith in row_typed f n (r + 1) i x (omega arith) ∙ rw e

pub row-free : (f : ℕ → FieldType) (n r i : ℕ) (x : Document) → n ≤ i → row_test i (rows_from f n r) x ≡ true
unfolding row_test rows_from
row-free f zero r i x le = refl
row-free f (suc n) r zero x le = absurd (omega arith)
row-free f (suc n) r (suc i) x le = row-free f n (r + 1) i x (omega arith)

-- a row's test is that of its type

pub row_type : (rows : Rows) (i : ℕ) (x : Document) → i < row_count rows → row_test i rows x ≡ typed (type_in i rows) x
unfolding row_test type_in row_count
row_type last i x lt = absurd (omega arith)
row_type (row k q t rows) zero x lt = refl
row_type (row k q t rows) (suc i) x lt = row_type rows i x (omega arith)

pub no-type : (rows : Rows) (i : ℕ) → row_count rows ≤ i → type_in i rows ≡ plain 0
unfolding type_in row_count
no-type last i le = refl
no-type (row k q t rows) zero le = absurd (omega arith)
no-type (row k q t rows) (suc i) le = no-type rows i (omega arith)

-- the names of rows are different whatever their types are

new-same : (f g : ℕ → FieldType) (k : List ℕ) (n r : ℕ) → new_name k (rows_from f n r) ≡ new_name k (rows_from g n r)
unfolding new_name rows_from
new-same f g k zero r = refl
new-same f g k (suc n) r = rw (new-same f g k n (r + 1))

distinct-same : (f g : ℕ → FieldType) (n r : ℕ) → distinct_names (rows_from f n r) ≡ distinct_names (rows_from g n r)
unfolding distinct_names rows_from
distinct-same f g zero r = refl
distinct-same f g (suc n) r = rw (new-same f g (name_of r) n (r + 1), distinct-same f g n (r + 1))

-- a name is looked for where its hint says

module _ (k : List ℕ) (f : ℕ → FieldType) where
  -- the row that is found has the name, and a row with the name is found
  found_name : (n r : ℕ) → find_row k (rows_from f n r) < n → k ≡ name_of (r + find_row k (rows_from f n r))
  unfolding find_row rows_from
  found_name zero r lt = absurd (omega arith)
  found_name (suc n) r lt = go (equal k (name_of r)) refl lt (found_name n (r + 1))
    where
      go : (b : Bool) → equal k (name_of r) ≡ b → cond b 0 (suc (find_row k (rows_from f n (r + 1)))) < suc n → (find_row k (rows_from f n (r + 1)) < n → k ≡ name_of (r + 1 + find_row k (rows_from f n (r + 1)))) → k ≡ name_of (r + cond b 0 (suc (find_row k (rows_from f n (r + 1)))))
      go true e h later = equal-true k (name_of r) e ∙ ap name_of (sym (add-zero r))
      go false e h later =
          let g : r + 1 + find_row k (rows_from f n (r + 1)) ≡ r + suc (find_row k (rows_from f n (r + 1))) = omega arith in
          later (omega arith) ∙ ap name_of g

  name-found : (n r i : ℕ) → i < n → equal k (name_of (r + i)) ≡ true → find_row k (rows_from f n r) < n
  unfolding find_row rows_from
  name-found zero r i lt h = absurd (omega arith)
  name-found (suc n) r zero lt h = let e : equal k (name_of r) ≡ true = ap (λ (z : ℕ). equal k (name_of z)) (sym (add-zero r)) ∙ h in rw e (omega arith)
  name-found (suc n) r (suc i) lt h =
      let g : r + 1 + i ≡ r + suc i = omega arith in
      go (equal k (name_of r)) (name-found n (r + 1) i (omega arith) (ap (λ (z : ℕ). equal k (name_of z)) g ∙ h))
    where
      go : (b : Bool) → find_row k (rows_from f n (r + 1)) < n → cond b 0 (suc (find_row k (rows_from f n (r + 1)))) < suc n
      go true later = omega arith
      go false later = omega arith

  found-few : (n r : ℕ) → find_row k (rows_from f n r) ≤ n
  unfolding find_row rows_from
  found-few zero r = omega arith
  found-few (suc n) r = go (equal k (name_of r)) (found-few n (r + 1))
    where
      go : (b : Bool) → find_row k (rows_from f n (r + 1)) ≤ n → cond b 0 (suc (find_row k (rows_from f n (r + 1)))) ≤ suc n
      go true later = omega arith
      go false later = omega arith

hinted-both : (n first i : ℕ) → hinted n first ≡ true → i < n → ltb (first + i) all_rows && eqb (hint_of first (name_of (first + i))) i ≡ true
unfolding hinted
hinted-both zero first i h lt = absurd (omega arith)
hinted-both (suc n) first i h lt = go (eqb i n) refl (hinted-both n first i (and_right (ltb (first + n) all_rows && eqb (hint_of first (name_of (first + n))) n) (hinted n first) h))
  where
    go : (b : Bool) → eqb i n ≡ b → (i < n → ltb (first + i) all_rows && eqb (hint_of first (name_of (first + i))) i ≡ true) → ltb (first + i) all_rows && eqb (hint_of first (name_of (first + i))) i ≡ true
    go true e earlier = rw (eqb-true i n e) (and_left (ltb (first + n) all_rows && eqb (hint_of first (name_of (first + n))) n) (hinted n first) h)
    go false e earlier = let d = eqb-false i n e in earlier (omega arith)

pub hinted-row : (n first i : ℕ) → hinted n first ≡ true → i < n → first + i < all_rows
hinted-row n first i h lt = ltb-true (first + i) all_rows (and_left (ltb (first + i) all_rows) (eqb (hint_of first (name_of (first + i))) i) (hinted-both n first i h lt))

hinted-at : (n first i : ℕ) → hinted n first ≡ true → i < n → hint_of first (name_of (first + i)) ≡ i
hinted-at n first i h lt = eqb-true (hint_of first (name_of (first + i))) i (and_right (ltb (first + i) all_rows) (eqb (hint_of first (name_of (first + i))) i) (hinted-both n first i h lt))

-- the hint of the m bytes from a on, by two of them
pub hint-is : (s : List ℕ) (a m first : ℕ) {early late : ℕ} → a + m ≤ length s → early ≡ get_or (take m (drop a s)) 0 0 → late ≡ get_or (take m (drop a s)) 3 0 → table_byte (row_at all_rows + (early * 24 + late * 10 + m % 128 + first * 31) % 128) ≡ hint_of first (take m (drop a s))
unfolding hint_of hint_place
hint-is s a m first fits e l = rw (e, l, part_length_lem s a m fits)

module _ (f : ℕ → FieldType) (n first : ℕ) (all : hinted n first ≡ true) (k : List ℕ) {i : ℕ} (hint : i ≡ hint_of first k) where
  -- the row that is found is the hint
  is-hint : find_row k (rows_from f n first) < n → i ≡ find_row k (rows_from f n first)
  is-hint lt = hint ∙ ap (hint_of first) (found_name k f n first lt) ∙ hinted-at n first (find_row k (rows_from f n first)) all lt

  pub hint-found : i < n → equal k (name_of (first + i)) ≡ true → i ≡ find_row k (rows_from f n first)
  hint-found lt h = is-hint (name-found k f n first i lt h)

  pub hint-none : (i < n → equal k (name_of (first + i)) ≡ false) → n ≡ find_row k (rows_from f n first)
  hint-none other = go (ltb (find_row k (rows_from f n first)) n) refl
    where
      go : (b : Bool) → ltb (find_row k (rows_from f n first)) n ≡ b → n ≡ find_row k (rows_from f n first)
      go true e =
          let lt = ltb-true (find_row k (rows_from f n first)) n e in
          let is = is-hint lt in
          absurd (false-equal k (name_of (first + i)) (other (omega (arith, is, lt))) (found_name k f n first lt ∙ ap (λ (z : ℕ). name_of (first + z)) (sym is)))
      go false e = let a = found-few k f n first in let b = ltb-false (find_row k (rows_from f n first)) n e in omega arith

-- each type by its numbers: a type with none inside is of a kind that holds no others, and the names of a map's rows are different and have
-- their rows as hints

simple : ℕ → Bool
simple c = leb 3 (tag_of c) || leb (inside_of c) 4

distinct : ℕ → Bool
distinct c = leb (tag_of c) 3 || distinct_names (rows_from plain (many_of c) (inside_of c))

all_hinted : ℕ → Bool
all_hinted c = leb (tag_of c) 3 || hinted (many_of c) (inside_of c)

every : (ℕ → Bool) → ℕ → Bool
every t zero = true
every t (suc n) = t n && every t n

every-at : (t : ℕ → Bool) (n : ℕ) → every t n ≡ true → (c : ℕ) → c < n → t c ≡ true
unfolding every
every-at t zero h c lt = absurd (omega arith)
every-at t (suc n) h c lt = go (eqb c n) refl (every-at t n (and_right (t n) (every t n) h) c)
  where
    go : (b : Bool) → eqb c n ≡ b → (c < n → t c ≡ true) → t c ≡ true
    go true e rest = rw (eqb-true c n e) (and_left (t n) (every t n) h)
    go false e rest = let d = eqb-false c n e in rest (omega arith)

-- computed over all rows: a name has 4 bytes or more, and at most 19
sized : ℕ → Bool
sized r = leb 4 (table_byte (row_at r)) && leb (table_byte (row_at r)) 19

every-sized : every sized all_rows ≡ true
unfolding every sized table_byte type_table row_cells named group_rows transform_rows assembly_rows entity_rows
every-sized = refl

pub name-sized : (r : ℕ) → r < all_rows → (4 ≤ table_byte (row_at r)) × (table_byte (row_at r) ≤ 19)
unfolding sized
name-sized r lt =
    let h = every-at sized all_rows every-sized r lt in
    (leb-true 4 (table_byte (row_at r)) (and_left (leb 4 (table_byte (row_at r))) (leb (table_byte (row_at r)) 19) h), leb-true (table_byte (row_at r)) 19 (and_right (leb 4 (table_byte (row_at r))) (leb (table_byte (row_at r)) 19) h))

-- a row's name as a part of the table
pub name-part : (r : ℕ) → r < all_rows → take (table_byte (row_at r)) (drop (row_at r + 3) type_table) ≡ name_of r
unfolding table_byte
name-part r lt =
    let m = get_or type_table (row_at r) 0 in
    let z = name-sized r lt in
    let fits : row_at r + 3 + m ≤ length type_table = omega (arith, table-length, z.1) in
    let long = part_length_lem type_table (row_at r + 3) m fits in
    ext_get_or 0 (take m (drop (row_at r + 3) type_table)) (name_of r) (long ∙ sym (name-length r)) (λ i h. get_or-take m (drop (row_at r + 3) type_table) i 0 (omega (arith, long)) ∙ get_or-drop (row_at r + 3) type_table i 0 ∙ sym (name-byte r i (omega (arith, long))))

-- computed over all types
every-simple : every simple code_count ≡ true
unfolding every simple table_byte type_table
every-simple = refl

every-distinct : every distinct code_count ≡ true
unfolding every distinct distinct_names new_name equal rows_from name_of table_byte type_table row_cells named group_rows transform_rows assembly_rows entity_rows
every-distinct = refl

every-hinted : every all_hinted code_count ≡ true
unfolding every all_hinted hinted hint_of hint_place row_hint hint_cells name_of table_byte type_table row_cells named group_rows transform_rows assembly_rows entity_rows
every-hinted = refl

pub named-hinted : hinted field_count first_field ≡ true
unfolding hinted hint_of hint_place row_hint hint_cells name_of table_byte type_table row_cells named group_rows transform_rows assembly_rows entity_rows
named-hinted = refl

pub simple-kind : (c : ℕ) → c < code_count → tag_of c < 3 → inside_of c ≤ 4
unfolding simple
simple-kind c lt small = go (leb 3 (tag_of c)) refl (every-at simple code_count every-simple c lt)
  where
    go : (b : Bool) → leb 3 (tag_of c) ≡ b → (b || leb (inside_of c) 4) ≡ true → inside_of c ≤ 4
    go true e h = absurd (omega (arith, leb-true 3 (tag_of c) e))
    go false e h = leb-true (inside_of c) 4 h

-- what is tested of each map's type
of_map : (c : ℕ) (b : Bool) → 3 < tag_of c → (leb (tag_of c) 3 || b) ≡ true → b ≡ true
of_map c b large h = go (leb (tag_of c) 3) refl h
  where
    go : (t : Bool) → leb (tag_of c) 3 ≡ t → (t || b) ≡ true → b ≡ true
    go true e h = absurd (omega (arith, leb-true (tag_of c) 3 e))
    go false e h = h

pub map-distinct : (f : ℕ → FieldType) (c : ℕ) → c < code_count → 3 < tag_of c → distinct_names (rows_from f (many_of c) (inside_of c)) ≡ true
unfolding distinct
map-distinct f c lt large = distinct-same f plain (many_of c) (inside_of c) ∙ of_map c (distinct_names (rows_from plain (many_of c) (inside_of c))) large (every-at distinct code_count every-distinct c lt)

pub map-hinted : (c : ℕ) → c < code_count → 3 < tag_of c → hinted (many_of c) (inside_of c) ≡ true
unfolding all_hinted
map-hinted c lt large = of_map c (hinted (many_of c) (inside_of c)) large (every-at all_hinted code_count every-hinted c lt)

-- a type by its number

pub type-none : (c : ℕ) → type_of 0 c ≡ plain 0
unfolding type_of
type-none c = refl

pub type-past : (d c : ℕ) → code_count ≤ c → type_of d c ≡ plain 0
unfolding type_of
type-past zero c le = refl
type-past (suc d) c le = rw (le-ltb c code_count le)

pub type-is : (d c : ℕ) → 0 < d → c < code_count → type_of d c ≡ build (type_of (d - 1)) (tag_of c) (many_of c) (inside_of c)
unfolding type_of
type-is zero c h lt = absurd (omega arith)
type-is (suc d) c h lt = let e : suc d - 1 ≡ d = omega arith in rw (lt-ltb c code_count lt, e)

-- the types of values that hold no others
pub plain_type : (d c : ℕ) → 0 < d → c < 4 → type_of d c ≡ plain (c + 1)
unfolding type_of table_byte type_table
plain_type zero c h l = absurd (omega arith)
plain_type (suc d) zero h l = refl
plain_type (suc d) (suc zero) h l = refl
plain_type (suc d) (suc (suc zero)) h l = refl
plain_type (suc d) (suc (suc (suc zero))) h l = refl
plain_type (suc d) (suc (suc (suc (suc c)))) h l = absurd (omega arith)

-- the type of an array of integers
pub integers-type : (d : ℕ) → 0 < d → type_of d 4 ≡ array_of (plain 1)
unfolding type_of table_byte type_table
integers-type zero h = absurd (omega arith)
integers-type (suc d) h = refl

-- a type by the three numbers that were read of it
pub type-read : (d c : ℕ) {tag many inside : ℕ} → 0 < d → c < code_count → tag ≡ tag_of c → many ≡ table_byte (c * 3 + 1) → inside ≡ inside_of c → type_of d c ≡ build (type_of (d - 1)) tag (many % 64) inside
type-read d c h lt t m i = type-is d c h lt ∙ rw (t, m, i)

pub build-map : (f : ℕ → FieldType) (tag many inside : ℕ) → 3 < tag → build f tag many inside ≡ map_with (rows_from f many inside)
build-map f zero m i h = absurd (omega arith)
build-map f (suc zero) m i h = absurd (omega arith)
build-map f (suc (suc zero)) m i h = absurd (omega arith)
build-map f (suc (suc (suc zero))) m i h = absurd (omega arith)
build-map f (suc (suc (suc (suc t)))) m i h = refl

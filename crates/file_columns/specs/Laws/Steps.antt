-- Columns at places: the table gone through by numbers, and what is read of a column that is there.
-- Assumes nothing.
use Rattle.std.specs.Prelude.{◌≡◌, ℕ, zero, suc, ◌+◌, ◌-◌, ◌<◌, ◌≤◌, Bool, true, ◌&&◌, List, [], ◌∷◌, map, length, get_or, take, drop, ℤ, nat_lt, slice_index, slice_index_or, refl}
use Rattle.std.proofs.Common.{sym, subst, ◌∙◌, arith, add-one, ltb-true, drop-cons}
use Rattle.std.proofs.Math.Path.{ap}
use Rattle.std.specs.Prelude.{Option as Answer, Some, Ok, Err}
use Rattle.std.proofs.Math.Option.{Option, some}
use Rattle.refusal.specs.Table.{accepted}
use Rattle.refusal.specs.First.{or_else}
use Rattle.numbers.specs.BigEndian.{unsigned_at}
use Rattle.numbers.specs.Ranges.{all_pass, all_between}
use Rattle.text.specs.Equal.{equal}
use Rattle.messagepack.specs.Document.{Document, Entries}
use Rattle.values.specs.Parts.{text_of}
use Rattle.values.specs.Places.{At, TextAt, PlaceSays}
use Rattle.values.specs.Integers.{list_in}
use Rattle.values.specs.Laws.Places.{Stands, place-some}
use Rattle.values.specs.declared.Part.{Part}
use Rattle.fields.specs.Table.{named, field_count}
use Rattle.fields.specs.Fields.{field_at, find_row, field, row_value}
use Rattle.columns.specs.declared.Kind.{Kind}
use Rattle.columns.specs.declared.Wanted.{Wanted}
use Rattle.columns.specs.declared.Wanted.TheVariants.{Real}
use Rattle.columns.specs.Decode.{refused, column, decode}
use Rattle.file_columns.specs.Field.{field_column, checked_of}
use Rattle.file_columns.specs.declared.whole.Checked.{Checked}
use Rattle.file_columns.specs.Laws.Field.{checked-refusal, checked-column, field_column-stated, field_column-decode}
use Rattle.file_columns.specs.Columns.{Column, Level, atom, bond, columns, column_of, decoded, decoding_number, ColumnRight, AllRight, column_number, first_number, cells_of, cells_in, length_in, column_length, lengths_in, fits_level, lengths_fit}
use Rattle.file_columns.specs.Steps.{column_count, field_numbers, wanted_numbers, level_numbers, wanted_from, level_from, column_at}

get_d_map : {A B : Type 0} (f : A → B) (l : List A) (i : ℕ) (d : A) → slice_index_or (map f l) i (f d) ≡ f (slice_index_or l i d)
get_d_map f [] i d = refl
get_d_map f (x ∷ l) zero d = refl
get_d_map f (x ∷ l) (suc i) d = get_d_map f l i d

-- the tables of numbers are the columns' own, each computed over the whole table

kinds-are : map wanted_from wanted_numbers ≡ map (λ (c : Column). c.kind) columns
kinds-are = refl

levels-are : map level_from level_numbers ≡ map (λ (c : Column). c.level) columns
levels-are = refl

fields-are : (es : Entries) → map (λ (i : ℕ). field_at i es) field_numbers ≡ map (λ (c : Column). field c.name es) columns
unfolding field_at row_value find_row equal named
fields-are es = refl

fields-few : map (λ (i : ℕ). nat_lt i field_count) field_numbers ≡ map (λ (i : ℕ). true) field_numbers
unfolding find_row equal named
fields-few = refl

-- inside a list the default plays no part
get_d_any : {A : Type 0} (l : List A) (i : ℕ) (a b : A) → i < length l → slice_index_or l i a ≡ slice_index_or l i b
get_d_any [] i a b h = absurd (omega arith)
get_d_any (x ∷ l) zero a b h = refl
get_d_any (x ∷ l) (suc i) a b h = get_d_any l i a b (omega arith)

module _ (i : ℕ) (lt : i < column_count) where
  abbrev blank : Column
  blank = column_of "" Real bond

  kind-is : wanted_from (slice_index wanted_numbers i) ≡ (column_at i).kind
  kind-is =
      sym (get_d_map wanted_from wanted_numbers i 0) ∙ ap (λ (l : List Wanted). get_or l i Real) kinds-are ∙ get_d_map (λ (c : Column). c.kind) columns i blank

  level-is : level_from (slice_index level_numbers i) ≡ (column_at i).level
  level-is =
      sym (get_d_map level_from level_numbers i 0) ∙ ap (λ (l : List Level). get_or l i atom) levels-are
      ∙ get_d_any (map (λ (c : Column). c.level) columns) i atom bond lt ∙ get_d_map (λ (c : Column). c.level) columns i blank

  field_is : (es : Entries) → field_at (slice_index field_numbers i) es ≡ field (column_at i).name es
  field_is es =
      sym (get_d_map (λ (j : ℕ). field_at j es) field_numbers i 0) ∙ ap (λ (l : List (Option Document)). get_or l i (field_at 0 es)) (fields-are es)
      ∙ get_d_any (map (λ (c : Column). field c.name es) columns) i (field_at 0 es) (field "" es) lt ∙ get_d_map (λ (c : Column). field c.name es) columns i blank

  pub field-few : get_or field_numbers i 0 < field_count
  field-few =
      ltb-true (slice_index field_numbers i) field_count
      (sym (get_d_map (λ (j : ℕ). nat_lt j field_count) field_numbers i 0) ∙ ap (λ (l : List Bool). get_or l i true) fields-few ∙ all_true field_numbers i)
    where
      all_true : (l : List ℕ) (j : ℕ) → slice_index_or (map (λ (k : ℕ). true) l) j true ≡ true
      all_true [] j = refl
      all_true (x ∷ l) zero = refl
      all_true (x ∷ l) (suc j) = all_true l j

  column-next : drop i columns ≡ column_at i ∷ drop (i + 1) columns
  column-next = rw add-one (drop-cons columns i blank lt)

-- the column i as the code finds it: its field by the number of the field
abbrev pub value_at : ℕ → Entries → Option Document
value_at i es = field_at (slice_index field_numbers i) es

-- the columns from i on

drop_past : (l : List Column) (i : ℕ) → length l ≤ i → drop i l ≡ []
drop_past [] zero h = refl
drop_past [] (suc i) h = refl
drop_past (x ∷ l) zero h = absurd (omega arith)
drop_past (x ∷ l) (suc i) h = drop_past l i (omega arith)

-- the first refusal
module _ (i : ℕ) (es : Entries) where
  pub number-next : i < column_count → {r : ℕ} {w : Wanted} → w ≡ wanted_from (slice_index wanted_numbers i) → r ≡ column_number w (value_at i es) → first_number (drop i columns) es ≡ or_else r (first_number (drop (i + 1) columns) es)
  unfolding first_number
  number-next lt v e = rw (e, v, kind-is i lt, field_is i lt es) (ap (λ (l : List Column). first_number l es) (column-next i lt))

  pub number-end : column_count ≤ i → first_number (drop i columns) es ≡ accepted
  unfolding first_number
  number-end le = ap (λ (l : List Column). first_number l es) (drop_past columns i le)

-- the lengths
module _ (i a g c : ℕ) (es : Entries) where
  pub length-next : i < column_count → {v : ℕ} {l : Answer ℕ} {b : Bool} → v ≡ slice_index level_numbers i → l ≡ column_length (wanted_from (slice_index wanted_numbers i)) (value_at i es) → fits_level (level_from v) a g c l ≡ b → lengths_fit (lengths_in (drop i columns) es) a g c ≡ b && lengths_fit (lengths_in (drop (i + 1) columns) es) a g c
  unfolding lengths_fit lengths_in
  length-next lt p q r = rw (← r, p, q, kind-is i lt, level-is i lt, field_is i lt es) (ap (λ (l : List Column). lengths_fit (lengths_in l es) a g c) (column-next i lt))

  pub length-end : column_count ≤ i → lengths_fit (lengths_in (drop i columns) es) a g c ≡ true
  unfolding lengths_fit lengths_in
  length-end le = ap (λ (l : List Column). lengths_fit (lengths_in l es) a g c) (drop_past columns i le)

-- the column i of a file whose columns all decode does
pub right-at : (es : Entries) → AllRight columns es → (i : ℕ) → i < column_count → ColumnRight (wanted_from (slice_index wanted_numbers i)) (value_at i es)
right-at es a i lt = rw (kind-is i lt, field_is i lt es) (go columns a i lt)
  where
    go : (cs : List Column) → AllRight cs es → (j : ℕ) → j < length cs → ColumnRight (get_or cs j (column_of "" Real bond)).kind (field (get_or cs j (column_of "" Real bond)).name es)
    go [] r j l = absurd (omega arith)
    go (c ∷ cs) r zero l = r.0
    go (c ∷ cs) r (suc j) l = go cs r.1 j (omega arith)

-- what is read of a column that is there: the part of s is the column's bytes

part-take : (s : List ℕ) (a m : ℕ) → take (a + m - a) (drop a s) ≡ take m (drop a s)
part-take s a m = let l : a + m - a ≡ m = omega arith in rw l

module _ {s : List ℕ} {at : ℕ} {o : Option Document} (p : PlaceSays s at o) (there : at ≡ 0 → ⊥) (part : Part) (says : (x : Document) (e : ℕ) → At s at x e → TextAt s x e part) where
  stands : Stands s at o
  stands = place-some p there

  bytes : take (part.at + part.count - part.at) (drop part.at s) ≡ text_of stands.x
  bytes = part-take s part.at part.count ∙ (says stands.x stands.end stands.at).is

  pub read-refused : (w : Wanted) (r : ℕ) → checked_of (field_column w (take (part.at + part.count - part.at) (drop part.at s))) ≡ Err r → r ≡ column_number w o
  read-refused w r e =
      let q : field_column w (text_of stands.x) ≡ refused r = sym (ap (field_column w) bytes) ∙ checked-refusal _ r e in
      sym (ap (column_number w) stands.is ∙ ap decoding_number q)

  pub read-good : (w : Wanted) (d : Checked) → checked_of (field_column w (take (part.at + part.count - part.at) (drop part.at s))) ≡ Ok d → 0 ≡ column_number w o
  read-good w d e =
      let c = checked-column _ d e in
      let q : field_column w (text_of stands.x) ≡ column c.0 d.parameter c.1 = sym (ap (field_column w) bytes) ∙ c.2 in
      sym (ap (column_number w) stands.is ∙ ap decoding_number q)

  -- where it decodes
  module _ (w : Wanted) (right : ColumnRight w o) where
    here : ColumnRight w (some stands.x)
    here = subst (ColumnRight w) stands.is right

    pub read_length : Some (unsigned_at 4 (take (part.at + part.count - part.at) (drop part.at s)) 4) ≡ column_length w o
    read_length =
        let c : field_column w (text_of stands.x) ≡ column here.k here.m here.cells = here.is in
        let l : length_in (decoded w stands.x) ≡ unsigned_at 4 (text_of stands.x) 4 = ap length_in c ∙ field_column-stated w (text_of stands.x) here.k here.m here.cells c in
        ap Some (ap (λ (t : List ℕ). unsigned_at 4 t 4) bytes ∙ sym l) ∙ sym (ap (column_length w) stands.is)

    -- its cells
    pub read-cells : (P : List ℤ → Type 0) → ((k : Kind) (m : ℕ) (xs : List ℤ) → decode w (take (part.at + part.count - part.at) (drop part.at s)) ≡ column k m xs → P xs) → P (list_in (cells_in w o))
    read-cells P f =
        let c : field_column w (text_of stands.x) ≡ column here.k here.m here.cells = here.is in
        let d : decode w (take (part.at + part.count - part.at) (drop part.at s)) ≡ column here.k here.m here.cells = ap (decode w) bytes ∙ field_column-decode w (text_of stands.x) here.k here.m here.cells c in
        subst P (sym (ap (λ (z : Option Document). list_in (cells_in w z)) stands.is ∙ ap cells_of c)) (f here.k here.m here.cells d)

pub none_between : (l h : ℤ) → all_between l h [] ≡ true
unfolding all_pass
none_between l h = refl

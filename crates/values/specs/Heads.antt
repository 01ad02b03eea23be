-- Values at places by any table of the form of that of lead bytes: what a value's kind and its head say. What this means for a document that
-- stands there, when the table is that of lead bytes, is in the contracts (Walked.antt). No lemma stands here: the laws are in Laws/Heads.antt.
-- Assumes nothing.
use Rattle.std.specs.Prelude.{Option, Some, None, Bool, true, cond, ◌&&◌, List, ℕ, ◌+◌, ◌-◌, eqb, leb, ltb, ℤ, pos, length, get_or}
use Rattle.heads.specs.Table.{kind_cell, kind_by, head_by}
use Rattle.heads.specs.declared.Kind.{Kind}
use Rattle.heads.specs.declared.Head.{Head}
use Rattle.values.specs.Places.{unsigned_by, signed_by}
use Rattle.values.specs.declared.Part.{Part}

-- kinds told apart
abbrev pub is_integer : Kind → Bool
is_integer k = cond (eqb (kind_cell k) (kind_cell Kind.Unsigned)) true (eqb (kind_cell k) (kind_cell Kind.Signed))

abbrev pub is_signed : Kind → Bool
is_signed k = eqb (kind_cell k) (kind_cell Kind.Signed)

abbrev pub is_float : Kind → Bool
is_float k = eqb (kind_cell k) (kind_cell Kind.Float)

abbrev pub is_string : Kind → Bool
is_string k = eqb (kind_cell k) (kind_cell Kind.Str)

abbrev pub is_binary : Kind → Bool
is_binary k = eqb (kind_cell k) (kind_cell Kind.Bin)

abbrev pub is_array : Kind → Bool
is_array k = eqb (kind_cell k) (kind_cell Kind.Array)

abbrev pub is_map : Kind → Bool
is_map k = eqb (kind_cell k) (kind_cell Kind.Map)

-- the part of a value that has none
abbrev pub no_part : Part
no_part = record { at = 0; count = 0 }

-- the n bytes from p on, or none where they are not all inside a file of some size
abbrev pub body_part : ℕ → ℕ → ℕ → Part
body_part size n p = cond (leb (p + n) size) (record { at = p; count = n }) no_part

-- the n values from p on, or none where they are more than the bytes of the file
abbrev pub items_part : ℕ → ℕ → ℕ → Part
items_part size n p = cond (leb n size) (record { at = p; count = n }) no_part

-- what is made of a head: f of its number and the place after it, or what is given for a head that is cut short
abbrev pub on_head : {A : Type 0} → A → (ℕ → ℕ → A) → Option Head → A
on_head cut f (Some h) = f h.number h.end
on_head cut f None = cut

-- what is made of the value at a place by a table: f of its kind, its head's number and the place after the head
abbrev pub by_head : {A : Type 0} → List ℕ → List ℕ → ℕ → A → (Kind → ℕ → ℕ → A) → A
by_head leads s at cut f = on_head cut (f (kind_by leads s at)) (head_by leads s at)

-- the integer of a head at a place, by its kind; of another kind 0
abbrev pub head_integer : ℕ → Kind → ℕ → ℕ → ℤ
head_integer at k n p = cond (is_signed k) (signed_by n (p - at)) (cond (is_integer k) (unsigned_by n) (pos 0))

-- the bytes, the values or the entries after a head, by its kind; of another kind none
abbrev pub head_text : ℕ → Kind → ℕ → ℕ → Part
head_text size k n p = cond (is_string k) (body_part size n p) (cond (is_binary k) (body_part size n p) no_part)

abbrev pub head_items : ℕ → Kind → ℕ → ℕ → Part
head_items size k n p = cond (is_array k) (items_part size n p) no_part

abbrev pub head_entries : Kind → ℕ → ℕ → Part
head_entries k n p = cond (is_map k) (record { at = p; count = n }) no_part

-- the integer at a place by a table; of another value 0
abbrev pub integer_by : List ℕ → List ℕ → ℕ → ℤ
integer_by leads s at = by_head leads s at (pos 0) (head_integer at)

-- the values of the array at a place by a table; of another value none
abbrev pub items_by : List ℕ → List ℕ → ℕ → Part
items_by leads s at = by_head leads s at no_part (head_items (length s))

-- the entries of the map at a place by a table; of another value none
abbrev pub entries_by : List ℕ → List ℕ → ℕ → Part
entries_by leads s at = by_head leads s at no_part head_entries

-- the bytes of the string or the binary at a place by a table; of another value none
abbrev pub text_by_table : List ℕ → List ℕ → ℕ → Part
text_by_table leads s at = by_head leads s at no_part (head_text (length s))

-- whether a lead byte a0 to bf, that of a short string, stands at a place
abbrev pub is_short : List ℕ → ℕ → Bool
is_short s at = ltb at (length s) && (leb 0xa0 (get_or s at 0) && ltb (get_or s at 0) 0xc0)

-- the bytes of the string or the binary at a place: of a short string by its lead byte, whatever the table says; else by the table
abbrev pub text_by : List ℕ → List ℕ → ℕ → Part
text_by leads s at = cond (is_short s at) (body_part (length s) (get_or s at 0 - 0xa0) (at + 1)) (text_by_table leads s at)

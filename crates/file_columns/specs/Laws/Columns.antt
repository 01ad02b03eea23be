-- The number of the columns is 0 exactly when each column that is there is of its kind and decodes, and at most 19: a refusal of a column is
-- 14 to 19.
-- Assumes nothing.
use Rattle.std.specs.Prelude.{◌≡◌, ℕ, ◌-◌, ◌≤◌, Bool, true, false, cond, ◌&&◌, ◌↔◌, List, [], ◌∷◌, length, drop, ℤ, ◌==◌, nat_le, nat_lt, refl}
use Rattle.std.proofs.Common.{ap, subst, arith, lit≤}
use Rattle.std.specs.Prelude.{Option as Answer, Some, None, Result, Ok, Err}
use Rattle.std.proofs.Math.Option.{Option, some, none as nothing}
use Prim.Native.String as Text
use Rattle.refusal.specs.Table.{column_short, length_differs}
use Rattle.refusal.proofs.Laws.First.{or_else-left, or_else-right, or_else-zero, or_else-most}
use Rattle.numbers.specs.BigEndian.{unsigned_at}
use Rattle.numbers.specs.Laws.Tests.{either}
use Rattle.text.specs.Ascii.{ascii}
use Rattle.text.specs.Equal.{equal}
use Rattle.steps.specs.Payload.{held_in}
use Rattle.columns.specs.declared.Kind.{Kind}
use Rattle.columns.specs.declared.Wanted.{Wanted}
use Rattle.columns.specs.declared.Codec.{Codec}
use Rattle.columns.specs.declared.Header.{Header}
use Rattle.columns.specs.Table.{codec_of, suits, length_limit, parameter_ok, size_right, elements}
use Rattle.columns.specs.Header.{header_size, header_of, judged}
use Rattle.columns.specs.Decode.{Decoding, refused, column, judged_values, judged_payload, decode}
use Rattle.file_columns.specs.Field.{other_names, field_column}
use Rattle.messagepack.specs.Document.{Document, Entries}
use Rattle.values.specs.Parts.{text_of}
use Rattle.fields.specs.Fields.{field}
use Rattle.file_columns.specs.Columns.{Column, columns, decoded, decoding_number, ColumnRight, AllRight, column_number, first_number, columns_number}

-- A refusal is 14 to 19

-- the numbers of a column's refusals
abbrev pub OfColumn : ℕ → Type 0
OfColumn r = (column_short ≤ r) × (r ≤ length_differs)

-- a header's refusal has one of them
abbrev HeaderSure : Result Header ℕ → Type 0
HeaderSure (Err r) = OfColumn r
HeaderSure (Ok h) = Unit {0}

-- a decoding's refusal has one of them
abbrev pub Sure : Decoding → Type 0
Sure (refused r) = OfColumn r
Sure (column k m xs) = Unit {0}

judged-sure : (w : Wanted) (c : Answer Codec) (n m b : ℕ) → HeaderSure (judged w c n m b)
judged-sure w None n m b = (lit≤ tt, lit≤ tt)
judged-sure w (Some c) n m b =
    either HeaderSure (suits w c.kind) (either HeaderSure (nat_le n length_limit && parameter_ok c.parameter m) (either HeaderSure (size_right c.form n m b) tt (lit≤ tt, lit≤ tt)) (lit≤ tt, lit≤ tt)) (lit≤ tt, lit≤ tt)

header-sure : (w : Wanted) (s : List ℕ) → HeaderSure (header_of w s)
unfolding header_of
header-sure w s = either HeaderSure (nat_lt (length s) header_size) (lit≤ tt, lit≤ tt) (judged-sure w (codec_of (unsigned_at 4 s 0)) (unsigned_at 4 s 4) (unsigned_at 4 s 8) (length s - header_size))

values-sure : (e m : ℕ) (k : Kind) (d : Bool) (o : Option (List ℤ)) → Sure (judged_values e m k d o)
values-sure e m k d nothing = (lit≤ tt, lit≤ tt)
values-sure e m k d (some l) = either Sure (length l == e) tt (lit≤ tt, lit≤ tt)

payload-sure : (h : Result Header ℕ) (p : List ℕ) → HeaderSure h → Sure (judged_payload h p)
payload-sure (Err r) p o = o
payload-sure (Ok h) p o = values-sure (elements h.form h.length h.parameter) h.parameter h.kind h.delta (held_in h.form h.parameter p)

pub decode-sure : (w : Wanted) (s : List ℕ) → Sure (decode w s)
unfolding decode
decode-sure w s = payload-sure (header_of w s) (drop header_size s) (header-sure w s)

pub field-sure : (w : Wanted) (s : List ℕ) → Sure (field_column w s)
unfolding field_column
field-sure w s = either Sure (other_names w s) (lit≤ tt, lit≤ tt) (decode-sure w s)

-- Columns

right-decoding : (d : Decoding) → Sure d → decoding_number d ≡ 0 → record { k : Kind; m : ℕ; cells : List ℤ; is : d ≡ column k m cells }
right-decoding (refused r) o e = absurd (omega (arith, o.0))
right-decoding (column k m xs) o e = record { k = k; m = m; cells = xs; is = refl }

column-there : (w : Wanted) (o : Option Document) → column_number w o ≡ 0 → ColumnRight w o
column-there w nothing e = tt
column-there w (some x) e = right-decoding (decoded w x) (field-sure w (text_of x)) e

column-back : (w : Wanted) (o : Option Document) → ColumnRight w o → column_number w o ≡ 0
column-back w nothing r = refl
column-back w (some x) r = ap decoding_number r.is

all_there : (cs : List Column) (es : Entries) → first_number cs es ≡ 0 → AllRight cs es
unfolding first_number
all_there [] es e = tt
all_there (c ∷ cs) es e =
    let n : ℕ = column_number c.kind (field c.name es) in
    (column-there c.kind (field c.name es) (or_else-left n (first_number cs es) e), all_there cs es (or_else-right n (first_number cs es) e))

all_back : (cs : List Column) (es : Entries) → AllRight cs es → first_number cs es ≡ 0
unfolding first_number
all_back [] es r = refl
all_back (c ∷ cs) es r = or_else-zero (column_number c.kind (field c.name es)) (first_number cs es) (column-back c.kind (field c.name es) r.0) (all_back cs es r.1)

-- the columns' number is 0 exactly when each column that is there is of its kind and decodes
pub columns-exactly : (es : Entries) → (columns_number es ≡ 0) ↔ AllRight columns es
columns-exactly es = (all_there columns es, all_back columns es)

-- it is at most 19

decoding-most : (d : Decoding) → Sure d → decoding_number d ≤ length_differs
decoding-most (refused r) o = o.1
decoding-most (column k m xs) o = lit≤ tt

column-most : (w : Wanted) (o : Option Document) → column_number w o ≤ length_differs
column-most w nothing = lit≤ tt
column-most w (some x) = decoding-most (decoded w x) (field-sure w (text_of x))

all_most : (cs : List Column) (es : Entries) → first_number cs es ≤ length_differs
unfolding first_number
all_most [] es = lit≤ tt
all_most (c ∷ cs) es = or_else-most (column_number c.kind (field c.name es)) (first_number cs es) (column-most c.kind (field c.name es)) (all_most cs es)

pub columns-most : (es : Entries) → columns_number es ≤ length_differs
columns-most es = all_most columns es

-- A column by its name

-- the column of a name in a list of columns
abbrev column_named : Text.String → List Column → Option Column
column_named name [] = nothing
column_named name (c ∷ cs) = cond (equal (ascii name) (ascii c.name)) (some c) (column_named name cs)

-- where all columns that are there decode, so does the one of a name; which it is, is computed over the table
pub right-named : (es : Entries) → AllRight columns es → (name : Text.String) {c : Column} → column_named name columns ≡ some c → ColumnRight c.kind (field c.name es)
right-named es a name {c} e = go columns a e
  where
    step : (d : Column) (b : Bool) {o : Option Column} → ColumnRight d.kind (field d.name es) → (o ≡ some c → ColumnRight c.kind (field c.name es)) → cond b (some d) o ≡ some c → ColumnRight c.kind (field c.name es)
    step d true r more z = let s : d ≡ c = cc in subst (λ (x : Column). ColumnRight x.kind (field x.name es)) s r
    step d false r more z = more z

    go : (cs : List Column) → AllRight cs es → column_named name cs ≡ some c → ColumnRight c.kind (field c.name es)
    go [] r q = let y : ◌≡◌ {A = ℕ} 0 1 = cc in absurd (omega arith)
    go (d ∷ cs) r q = step d (equal (ascii name) (ascii d.name)) r.0 (go cs r.1) q

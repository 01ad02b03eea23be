-- The named fields by their names, and the refusals by them: no number exactly when the fields are right, and no number above 24.
-- Assumes nothing.
use Rattle.std.specs.Prelude.{◌≡◌, refl, Bool, true, false, cond, ◌&&◌, List, [], ◌∷◌, ◌↔◌, ℕ, zero, suc, ◌+◌, ◌<◌, ◌≤◌, eqb, leb, take, drop}
use Rattle.std.proofs.Common.{length, sym, subst, ◌∙◌, arith, add-zero, lit≤, get_or-take, get_or-drop, eqb-true, leb-true, ltb-true, le-leb}
use Rattle.std.proofs.Math.Path.{ap}
use Rattle.std.proofs.Math.Option.{some}
use Prim.Native.String as Text
use Rattle.std.proofs.Math.ListN.{get_or, length-take, get_or-eq_default}
use Rattle.refusal.specs.Table.{accepted, field_missing, field_type, version_not1}
use Rattle.numbers.specs.Laws.Tests.{clash, and_left, and_right, either}
use Rattle.text.specs.Ascii.{ascii}
use Rattle.text.specs.Equal.{equal}
use Rattle.text.specs.Laws.Equal.{equal-true}
use Rattle.messagepack.specs.Document.{Document, Entries}
use Rattle.values.specs.Parts.{look}
use Rattle.values.specs.Places.{PlaceSays}
use Rattle.fields.specs.Types.{FieldType, Rows, last, row, Has, Fits, HasType}
use Rattle.fields.specs.Tests.{have, fitting}
use Rattle.fields.specs.Table.{named, field_count}
use Rattle.fields.specs.Fields.{row_count, find_row, is_required, type_under, field_number, is_field, field, field_at, required_in, VersionOne, is_version_one, version_of, FieldsRight, fields_number, row_value}
use Rattle.fields.specs.Noted.{PlacesOf}
use Rattle.fields.specs.Laws.Types.{have-exactly, fitting-exactly}

-- computed over the table
pub named_count : row_count named ≡ field_count
unfolding row_count named
named_count = refl

-- a row by its name

pub value_of-find_row : (k : List ℕ) (rows : Rows) (es : Entries) → find_row k rows < row_count rows → row_value (find_row k rows) rows es ≡ look k es
unfolding find_row row_count row_value
value_of-find_row k last es lt = absurd (omega arith)
value_of-find_row k (row l q t rows) es lt = go (equal k l) refl lt (λ h. value_of-find_row k rows es h)
  where
    go : (b : Bool) → equal k l ≡ b → cond b 0 (suc (find_row k rows)) < suc (row_count rows) → (find_row k rows < row_count rows → row_value (find_row k rows) rows es ≡ look k es) → row_value (cond b 0 (suc (find_row k rows))) (row l q t rows) es ≡ look k es
    go true e h rest = ap (λ (z : List ℕ). look z es) (sym (equal-true k l e))
    go false e h rest = rest (omega arith)

-- a required key is there
pub has-name : (k : List ℕ) (rows : Rows) (es : Entries) → Has rows es → is_required k rows ≡ true → record { x : Document; is : look k es ≡ some x }
unfolding Has is_required
has-name k last es h q = clash q
has-name k (row l true t rows) es h q = go (equal k l) refl q (λ r. has-name k rows es h.1 r)
  where
    go : (b : Bool) → equal k l ≡ b → cond b true (is_required k rows) ≡ true → (is_required k rows ≡ true → record { x : Document; is : look k es ≡ some x }) → record { x : Document; is : look k es ≡ some x }
    go true e r rest = record { x = h.0.x; is = ap (λ (z : List ℕ). look z es) (equal-true k l e) ∙ h.0.is }
    go false e r rest = rest r
has-name k (row l false t rows) es h q = go (equal k l) q (λ r. has-name k rows es h r)
  where
    go : (b : Bool) → cond b false (is_required k rows) ≡ true → (is_required k rows ≡ true → record { x : Document; is : look k es ≡ some x }) → record { x : Document; is : look k es ≡ some x }
    go true r rest = clash r
    go false r rest = rest r

-- a key that is there has its type
pub fits-name : (k : List ℕ) (rows : Rows) (es : Entries) {t : FieldType} {x : Document} → Fits rows es → type_under k rows ≡ some t → look k es ≡ some x → HasType t x
unfolding Fits type_under
fits-name k last es f q h = let z : ◌≡◌ {A = ℕ} 0 1 = cc in absurd (omega arith)
fits-name k (row l p u rows) es {t} {x} f q h = go (equal k l) refl q (λ r. fits-name k rows es f.1 r h)
  where
    go : (b : Bool) → equal k l ≡ b → cond b (some u) (type_under k rows) ≡ some t → (type_under k rows ≡ some t → HasType t x) → HasType t x
    go true e r rest =
        let v : u ≡ t = cc in
        subst (λ (z : FieldType). HasType z x) v (f.0 x (ap (λ (z : List ℕ). look z es) (sym (equal-true k l e)) ∙ h))
    go false e r rest = rest r

-- the field with a name's number is what stands under the name
pub field_at-name : (name : Text.String) (es : Entries) → is_field name ≡ true → field_at (field_number name) es ≡ field name es
unfolding field_at
field_at-name name es h = value_of-find_row (ascii name) named es (let l = ltb-true (field_number name) field_count h in omega (arith, named_count))

-- its place by its name, where its number is i
pub place-name : {s : List ℕ} {es : Entries} {places : List ℕ} → PlacesOf s es places → (name : Text.String) {i : ℕ} → is_field name ≡ true → field_number name ≡ i → PlaceSays s (get_or places i 0) (field name es)
place-name {s} {es} {places} p name h e =
    subst (λ (j : ℕ). PlaceSays s (get_or places j 0) (field name es)) e
    (subst (PlaceSays s (get_or places (field_number name) 0)) (field_at-name name es h) (p.says (field_number name) (ltb-true (field_number name) field_count h)))

-- a required field is there, by its number

pub has_value : (rows : Rows) (es : Entries) → Has rows es → (i : ℕ) → required_in i rows ≡ true → record { x : Document; is : row_value i rows es ≡ some x }
unfolding Has row_value required_in
has_value last es h i q = clash q
has_value (row k true t rows) es h zero q = h.0
has_value (row k false t rows) es h zero q = clash q
has_value (row k true t rows) es h (suc i) q = has_value rows es h.1 i q
has_value (row k false t rows) es h (suc i) q = has_value rows es h i q

-- the test of the version says what its rule says

test-version : (t : List ℕ) → is_version_one t ≡ true → VersionOne t
unfolding is_version_one
test-version [] e = clash e
test-version (a ∷ []) e = clash (and_right (eqb a 0x31) false e)
test-version (a ∷ b ∷ []) e = clash (and_right (eqb b 0x2e) false (and_right (eqb a 0x31) (eqb b 0x2e && false) e))
test-version (a ∷ b ∷ d ∷ t) e =
    let f = and_right (eqb a 0x31) (eqb b 0x2e && (leb 0x30 d && leb d 0x39)) e in
    let g = and_right (eqb b 0x2e) (leb 0x30 d && leb d 0x39) f in
    let x : a ≡ 0x31 = eqb-true a 0x31 (and_left (eqb a 0x31) (eqb b 0x2e && (leb 0x30 d && leb d 0x39)) e) in
    let y : b ≡ 0x2e = eqb-true b 0x2e (and_left (eqb b 0x2e) (leb 0x30 d && leb d 0x39) f) in
    record { digit = d; rest = t; is = rw (x, y); low = leb-true 0x30 d (and_left (leb 0x30 d) (leb d 0x39) g); high = leb-true d 0x39 (and_right (leb 0x30 d) (leb d 0x39) g) }

version-test : (t : List ℕ) → VersionOne t → is_version_one t ≡ true
unfolding is_version_one
version-test t v = rw (v.is, le-leb 0x30 v.digit v.low, le-leb v.digit 0x39 v.high)

pub version-exactly : (t : List ℕ) → (is_version_one t ≡ true) ↔ VersionOne t
version-exactly t = (test-version t, version-test t)

-- the test on a part of a file, byte by byte

and_none : (a b c d : Bool) → c ≡ false → a && (b && (c && d)) ≡ false
and_none true true c d e = rw e
and_none true false c d e = refl
and_none false b c d e = refl

module _ (s : List ℕ) (a m : ℕ) where
  pub version-short : m < 3 → is_version_one (take m (drop a s)) ≡ false
  unfolding is_version_one
  version-short lt =
      let l = length-take m (drop a s) in
      let z : get_or (take m (drop a s)) 2 0 ≡ 0 = get_or-eq_default (take m (drop a s)) 0 (omega arith) in
      and_none (eqb (get_or (take m (drop a s)) 0 0) 0x31) (eqb (get_or (take m (drop a s)) 1 0) 0x2e) (leb 0x30 (get_or (take m (drop a s)) 2 0)) (leb (get_or (take m (drop a s)) 2 0) 0x39) (rw z)

  byte : (i : ℕ) → i < m → get_or (take m (drop a s)) i 0 ≡ get_or s (a + i) 0
  byte i lt = get_or-take m (drop a s) i 0 lt ∙ get_or-drop a s i 0

  pub version-bytes : 3 ≤ m → is_version_one (take m (drop a s)) ≡ (eqb (get_or s a 0) 0x31 && (eqb (get_or s (a + 1) 0) 0x2e && (leb 0x30 (get_or s (a + 2) 0) && leb (get_or s (a + 2) 0) 0x39)))
  unfolding is_version_one
  version-bytes le =
      let z : get_or (take m (drop a s)) 0 0 ≡ get_or s a 0 = byte 0 (omega arith) ∙ ap (λ (i : ℕ). get_or s i 0) (add-zero a) in
      rw (z, byte 1 (omega arith), byte 2 (omega arith))

-- fewer than three bytes
pub text-short : (t : List ℕ) → length t < 3 → is_version_one t ≡ false
unfolding is_version_one
text-short t lt =
    let z : get_or t 2 0 ≡ 0 = get_or-eq_default t 0 (omega arith) in
    and_none (eqb (get_or t 0 0) 0x31) (eqb (get_or t 1 0) 0x2e) (leb 0x30 (get_or t 2 0)) (leb (get_or t 2 0) 0x39) (rw z)

-- no number exactly when all is right

three : (a b c : Bool) → cond a (cond b (cond c accepted version_not1) field_type) field_missing ≡ accepted → (a ≡ true) × (b ≡ true) × (c ≡ true)
three true true true e = (refl, refl, refl)
three true true false e = absurd (omega (arith, e))
three true false c e = absurd (omega (arith, e))
three false b c e = absurd (omega (arith, e))

pub fields-exactly : (es : Entries) → (fields_number es ≡ accepted) ↔ FieldsRight es
unfolding fields_number
fields-exactly es = (there, back)
  where
    there : cond (have named es) (cond (fitting named es) (cond (is_version_one (version_of es)) accepted version_not1) field_type) field_missing ≡ accepted → FieldsRight es
    there e =
        let h = three (have named es) (fitting named es) (is_version_one (version_of es)) e in
        record { has = (have-exactly named es).0 h.0; fits = (fitting-exactly named es).0 h.1; version = (version-exactly (version_of es)).0 h.2 }

    back : FieldsRight es → cond (have named es) (cond (fitting named es) (cond (is_version_one (version_of es)) accepted version_not1) field_type) field_missing ≡ accepted
    back r = rw ((have-exactly named es).1 r.has, (fitting-exactly named es).1 r.fits, (version-exactly (version_of es)).1 r.version)

-- the number is at most 24
pub fields-most : (es : Entries) → fields_number es ≤ version_not1
unfolding fields_number
fields-most es =
    either Most (have named es) (either Most (fitting named es) (either Most (is_version_one (version_of es)) (lit≤ tt) (lit≤ tt)) (lit≤ tt)) (lit≤ tt)
  where
    Most : ℕ → Type 0
    Most n = n ≤ version_not1

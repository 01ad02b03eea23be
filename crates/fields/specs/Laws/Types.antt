-- The tests of types say what the propositions say.
-- Assumes nothing.
use Rattle.std.specs.Prelude.{◌≡◌, refl, Bool, true, false, ◌↔◌, eqb}
use Rattle.std.proofs.Math.Option.{Option, some, none as nothing}
use Rattle.numbers.specs.Laws.Tests.{clash, and_left, and_right, and_both}
use Rattle.std.proofs.Common.{eq-eqb, eqb-true}
use Rattle.messagepack.specs.Document.{Document, Documents, Entries, integer, float, string, binary, array, map, none, item, count}
use Rattle.values.specs.Parts.{look}
use Rattle.fields.specs.Types.{FieldType, Rows, plain, array_of, exactly, map_with, last, row, document_kind, Each, Has, HasType, Fits}
use Rattle.fields.specs.Tests.{on_value, is_there, all, have, typed, fitting}

all-each : (f : Document → Bool) (P : Document → Type 0) → ((d : Document) → f d ≡ true → P d) → (ds : Documents) → all f ds ≡ true → Each P ds
unfolding all Each
all-each f P h none e = tt
all-each f P h (item d ds) e = (h d (and_left (f d) (all f ds) e), all-each f P h ds (and_right (f d) (all f ds) e))

each_all : (f : Document → Bool) (P : Document → Type 0) → ((d : Document) → P d → f d ≡ true) → (ds : Documents) → Each P ds → all f ds ≡ true
unfolding all Each
each_all f P h none x = refl
each_all f P h (item d ds) x = and_both (f d) (all f ds) (h d x.0) (each_all f P h ds x.1)

-- each required key is there

there : (o : Option Document) → is_there o ≡ true → record { x : Document; is : o ≡ some x }
there (some x) e = record { x = x; is = refl }
there nothing e = clash e

have-has : (rows : Rows) (es : Entries) → have rows es ≡ true → Has rows es
unfolding have Has
have-has last es e = tt
have-has (row k true t rows) es e = (there (look k es) (and_left (is_there (look k es)) (have rows es) e), have-has rows es (and_right (is_there (look k es)) (have rows es) e))
have-has (row k false t rows) es e = have-has rows es e

has-have : (rows : Rows) (es : Entries) → Has rows es → have rows es ≡ true
unfolding have Has
has-have last es x = refl
has-have (row k true t rows) es x = rw x.0.is (has-have rows es x.1)
has-have (row k false t rows) es x = has-have rows es x

pub have-exactly : (rows : Rows) (es : Entries) → (have rows es ≡ true) ↔ Has rows es
have-exactly rows es = (have-has rows es, has-have rows es)

-- a document has a type, and each named key that is there has its type

mutual
  unfolding typed fitting HasType Fits

  typed-has : (t : FieldType) (x : Document) → typed t x ≡ true → HasType t x
  typed-has (plain k) x e = eqb-true (document_kind x) k e
  typed-has (array_of t) (array ds) e = record { values = ds; is = refl; each = all-each (typed t) (λ d. HasType t d) (λ d h. typed-has t d h) ds e }
  typed-has (array_of t) (integer v) e = clash e
  typed-has (array_of t) (float v) e = clash e
  typed-has (array_of t) (string v) e = clash e
  typed-has (array_of t) (binary v) e = clash e
  typed-has (array_of t) (map v) e = clash e
  typed-has (exactly n t) (array ds) e = record { values = ds; is = refl; many = eqb-true (count ds) n (and_left (eqb (count ds) n) (all (typed t) ds) e); each = all-each (typed t) (λ d. HasType t d) (λ d h. typed-has t d h) ds (and_right (eqb (count ds) n) (all (typed t) ds) e) }
  typed-has (exactly n t) (integer v) e = clash e
  typed-has (exactly n t) (float v) e = clash e
  typed-has (exactly n t) (string v) e = clash e
  typed-has (exactly n t) (binary v) e = clash e
  typed-has (exactly n t) (map v) e = clash e
  typed-has (map_with rows) (map es) e = record { entries = es; is = refl; has = have-has rows es (and_left (have rows es) (fitting rows es) e); fits = fitting-fits rows es (and_right (have rows es) (fitting rows es) e) }
  typed-has (map_with rows) (integer v) e = clash e
  typed-has (map_with rows) (float v) e = clash e
  typed-has (map_with rows) (string v) e = clash e
  typed-has (map_with rows) (binary v) e = clash e
  typed-has (map_with rows) (array v) e = clash e

  fitting-fits : (rows : Rows) (es : Entries) → fitting rows es ≡ true → Fits rows es
  fitting-fits last es e = tt
  fitting-fits (row k q t rows) es e = ((λ x h. typed-has t x (value x h (and_left (on_value (look k es) (λ y. typed t y)) (fitting rows es) e))), fitting-fits rows es (and_right (on_value (look k es) (λ y. typed t y)) (fitting rows es) e))
    where
      value : (x : Document) → look k es ≡ some x → on_value (look k es) (λ y. typed t y) ≡ true → typed t x ≡ true
      value x h e = rw h at e

mutual
  unfolding typed fitting HasType Fits

  has-typed : (t : FieldType) (x : Document) → HasType t x → typed t x ≡ true
  has-typed (plain k) x h = eq-eqb (document_kind x) k h
  has-typed (array_of t) x h = rw h.is (each_all (typed t) (λ d. HasType t d) (λ d y. has-typed t d y) h.values h.each)
  has-typed (exactly n t) x h = rw (h.is, eq-eqb (count h.values) n h.many) (each_all (typed t) (λ d. HasType t d) (λ d y. has-typed t d y) h.values h.each)
  has-typed (map_with rows) x h = rw (h.is, has-have rows h.entries h.has) (fits-fitting rows h.entries h.fits)

  fits-fitting : (rows : Rows) (es : Entries) → Fits rows es → fitting rows es ≡ true
  fits-fitting last es h = refl
  fits-fitting (row k q t rows) es h = and_both (on_value (look k es) (λ y. typed t y)) (fitting rows es) (go (look k es) (λ x e. has-typed t x (h.0 x e))) (fits-fitting rows es h.1)
    where
      go : (o : Option Document) → ((x : Document) → o ≡ some x → typed t x ≡ true) → on_value o (λ y. typed t y) ≡ true
      go (some x) f = f x refl
      go nothing f = refl

pub typed-exactly : (t : FieldType) (x : Document) → (typed t x ≡ true) ↔ HasType t x
typed-exactly t x = (typed-has t x, has-typed t x)

pub fitting-exactly : (rows : Rows) (es : Entries) → (fitting rows es ≡ true) ↔ Fits rows es
fitting-exactly rows es = (fitting-fits rows es, fits-fitting rows es)

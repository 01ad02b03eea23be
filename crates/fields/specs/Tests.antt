-- The types of fields as tests, which the numbers 12 and 13 go by. That they say what the propositions of Types.antt say is in Laws/Types.antt.
-- No lemma stands here. Assumes nothing.
use Rattle.std.specs.Prelude.{Bool, true, false, not, ◌&&◌, ◌||◌, eqb}
use Rattle.std.proofs.Math.Option.{Option, some, none as nothing}
use Rattle.messagepack.specs.Document.{Document, Documents, Entries, integer, float, string, binary, array, map, none, item, count}
use Rattle.values.specs.Parts.{look}
use Rattle.fields.specs.Types.{FieldType, Rows, plain, array_of, exactly, map_with, last, row, document_kind}

-- is the document an array whose values pass?
abbrev pub on_array : Document → (Documents → Bool) → Bool
on_array (array ds) f = f ds
on_array (integer v) f = false
on_array (float bits) f = false
on_array (string t) f = false
on_array (binary t) f = false
on_array (map es) f = false

-- is it a map whose entries pass?
abbrev pub on_map : Document → (Entries → Bool) → Bool
on_map (map es) f = f es
on_map (integer v) f = false
on_map (float bits) f = false
on_map (string t) f = false
on_map (binary t) f = false
on_map (array ds) f = false

-- does the value, if there is one, pass?
abbrev pub on_value : Option Document → (Document → Bool) → Bool
on_value (some x) f = f x
on_value nothing f = true

-- is there a value?
abbrev pub is_there : Option Document → Bool
is_there (some x) = true
is_there nothing = false

-- do all values of an array pass?
unfoldable pub all : (Document → Bool) → Documents → Bool
all f none = true
all f (item d ds) = f d && all f ds

-- is each required key there?
unfoldable pub have : Rows → Entries → Bool
have last es = true
have (row k q t rows) es = (not q || is_there (look k es)) && have rows es

-- has the document the type?
unfoldable mutual
  pub typed : FieldType → Document → Bool
  typed (plain k) x = eqb (document_kind x) k
  typed (array_of t) x = on_array x (all (typed t))
  typed (exactly n t) x = on_array x (λ ds. eqb (count ds) n && all (typed t) ds)
  typed (map_with rows) x = on_map x (λ es. have rows es && fitting rows es)

  -- has each named key that is there its type?
  pub fitting : Rows → Entries → Bool
  fitting last es = true
  fitting (row k q t rows) es = on_value (look k es) (λ x. typed t x) && fitting rows es

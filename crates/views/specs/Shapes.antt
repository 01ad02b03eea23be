-- The shape of the value under an outer key, by the file's document. No lemma stands here. Assumes nothing.
use Rattle.std.specs.Prelude.{Option as Answer, Some, None, Bool, true, false, cond, ◌&&◌, List, ℕ, eqb}
use Rattle.std.proofs.Math.Option.{Option, some, none as nothing}
use Rattle.refusal.specs.Table.{accepted}
use Rattle.heads.specs.declared.Kind.{Kind}
use Rattle.messagepack.specs.Document.{Document, Documents, integer, float, string, binary, array, map, none, item}
use Rattle.messagepack.specs.Walk.{container_number}
use Rattle.messagepack.specs.Read.{document_of}
use Rattle.values.specs.Parts.{entries_of, look}
use Rattle.views.specs.declared.shapes.Shape.{Shape}

-- is a document an integer, a float or a string?
abbrev pub plain : Document → Bool
plain (integer v) = true
plain (float bits) = true
plain (string t) = true
plain (binary t) = false
plain (array ds) = false
plain (map es) = false

-- are all values of an array?
unfoldable pub all_plain : Documents → Bool
all_plain none = true
all_plain (item d ds) = plain d && all_plain ds

-- the shape of a document
abbrev pub shape_of : Document → Shape
shape_of (integer v) = Shape.Integer
shape_of (float bits) = Shape.Float
shape_of (string t) = Shape.String
shape_of (binary t) = Shape.Binary
shape_of (array ds) = cond (all_plain ds) Shape.Flat Shape.Nested
shape_of (map es) = Shape.Nested

-- the shape of a value that is there, or not
abbrev pub shape_in : Option Document → Answer Shape
shape_in (some x) = Some (shape_of x)
shape_in nothing = None

-- the shape of the value under an outer key of a container
unfoldable pub shape_under : List ℕ → List ℕ → Answer Shape
shape_under file name = cond (eqb (container_number file) accepted) (shape_in (look name (entries_of (document_of file)))) None

-- For the code inside: the same by the kind of a value's head, and by whether the values of an array are all plain.

abbrev pub is_plain : Kind → Bool
is_plain Kind.Unsigned = true
is_plain Kind.Signed = true
is_plain Kind.Float = true
is_plain Kind.Str = true
is_plain Kind.Bin = false
is_plain Kind.Array = false
is_plain Kind.Map = false
is_plain Kind.Outside = false
is_plain Kind.Missing = false

abbrev pub kind_shape : Kind → Bool → Answer Shape
kind_shape Kind.Unsigned flat = Some Shape.Integer
kind_shape Kind.Signed flat = Some Shape.Integer
kind_shape Kind.Float flat = Some Shape.Float
kind_shape Kind.Str flat = Some Shape.String
kind_shape Kind.Bin flat = Some Shape.Binary
kind_shape Kind.Array flat = Some (cond flat Shape.Flat Shape.Nested)
kind_shape Kind.Map flat = Some Shape.Nested
kind_shape Kind.Outside flat = None
kind_shape Kind.Missing flat = None

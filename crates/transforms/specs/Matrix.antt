-- A transform's matrix of a file, and the number of its refusal (paper 01, "Views and the receipt"), from the file's document. No place and no
-- lemma stands here: the laws are in Laws/Matrix.antt. Assumes nothing.
use Rattle.std.specs.Prelude.{cond, List, [], ◌∷◌, ℕ, zero, suc, eqb, Float, take, drop, replicate}
use Rattle.std.proofs.Math.Option.{Option, some, none as nothing}
use Prim.Native.String as Text
use Rattle.std.specs.Float.{binary32}
use Rattle.std.specs.Float.Ieee.{of_bits}
use Rattle.refusal.specs.Table.{accepted, field_type, no_such_field, no_such_entry}
use Rattle.messagepack.specs.Document.{Document, Documents, none, item}
use Rattle.messagepack.specs.Walk.{container_number}
use Rattle.messagepack.specs.Read.{document_of}
use Rattle.values.specs.Parts.{bits_of, items_of, under, items_in}
use Rattle.fields.specs.Types.{FieldType, array_of, map_with}
use Rattle.fields.specs.Table.{assembly_rows}
use Rattle.fields.specs.Tests.{is_there, typed}

-- the value with a number among an array's values, from 0 on
unfoldable pub nth : ℕ → Documents → Option Document
nth i none = nothing
nth zero (item d ds) = some d
nth (suc i) (item d ds) = nth i ds

-- the value with a number in an array, if there is one
abbrev pub item_in : ℕ → Option Document → Option Document
item_in i (some x) = nth i (items_of x)
item_in i nothing = nothing

-- the value under a key of a map, if there is one
abbrev pub key_in : Text.String → Option Document → Option Document
key_in name (some x) = under name x
key_in name nothing = nothing

-- the type of bioAssemblyList
abbrev pub assemblies_type : FieldType
assemblies_type = array_of (map_with assembly_rows)

-- bioAssemblyList in a file, if it is there
abbrev pub assemblies_of : List ℕ → Option Document
assemblies_of file = under "bioAssemblyList" (document_of file)

-- the transform with the number t of the assembly with the number a, if there is one
abbrev pub transform_in : ℕ → ℕ → Option Document → Option Document
transform_in a t assemblies = item_in t (key_in "transformList" (item_in a assemblies))

-- the refusal by bioAssemblyList: 26 where it is not there, 13 by its type, 28 where there is no such transform
abbrev pub assemblies_number : ℕ → ℕ → Option Document → ℕ
assemblies_number a t nothing = no_such_field
assemblies_number a t (some x) = cond (typed assemblies_type x) (cond (is_there (transform_in a t (some x))) accepted no_such_entry) field_type

-- the refusal: the container's, else that
unfoldable pub matrix_number : List ℕ → ℕ → ℕ → ℕ
matrix_number file a t =
    cond (eqb (container_number file) accepted) (assemblies_number a t (assemblies_of file)) (container_number file)

-- the float of a document's bits
abbrev pub float_of : Document → Float
float_of x = of_bits binary32 (bits_of x)

-- the floats of an array's values, in order
unfoldable pub floats_of : Documents → List Float
floats_of none = []
floats_of (item d ds) = float_of d ∷ floats_of ds

-- sixteen floats that are zero
abbrev pub zeros : List Float
zeros = replicate 16 (of_bits binary32 0)

-- the floats of a transform's matrix
abbrev pub matrix_in : Option Document → List Float
matrix_in transform = floats_of (items_in (key_in "matrix" transform))

-- the floats that are handed over with a number: zeros on refusal
abbrev pub handed : ℕ → List Float → List Float
handed number floats = cond (eqb number accepted) floats zeros

-- the sixteen floats that are handed over for a file
unfoldable pub matrix_floats : List ℕ → ℕ → ℕ → List Float
matrix_floats file a t = handed (matrix_number file a t) (matrix_in (transform_in a t (assemblies_of file)))

-- sixteen floats as four rows of four
abbrev pub rows_of : List Float → List (List Float)
rows_of floats = take 4 floats ∷ take 4 (drop 4 floats) ∷ take 4 (drop 8 floats) ∷ take 4 (drop 12 floats) ∷ []

-- the matrix: four rows of four, all zero on refusal
abbrev pub matrix_of : List ℕ → ℕ → ℕ → List (List Float)
matrix_of file a t = rows_of (matrix_floats file a t)

-- A file opened: its verdict and, of an accepted file, the set of its named fields and the part of each, which is that of its view. No lemma
-- stands here: the laws are in Laws/Opening.antt. Assumes nothing.
use Rattle.std.specs.Prelude.{Result, Ok, Err, cond, ◌&&◌, List, map, ◌++◌, ℕ, eqb, leb, length, drop}
use Rattle.refusal.specs.Table.{accepted, buffer_too_small}
use Rattle.messagepack.specs.Document.{Entries}
use Rattle.messagepack.specs.Read.{document_of}
use Rattle.values.specs.Parts.{entries_of}
use Rattle.views.specs.Place.{Place, place_of}
use Rattle.fields.specs.Table.{field_count}
use Rattle.fields.specs.Fields.{field_names, presence_of}
use Rattle.structure.specs.Accepted.{verdict_of}

-- room for the named fields that is always enough: their set has 64 bits
abbrev pub fields_room : ℕ
fields_room = 64

-- the start and the length of a part; 0 and 0 where there is none
abbrev pub part_start : Place → ℕ
part_start (Ok part) = part.at
part_start (Err r) = 0

abbrev pub part_length : Place → ℕ
part_length (Ok part) = part.count
part_length (Err r) = 0

-- where the part of each named field starts in a file, in the order of the fields, and how long each is: those of the field's view
unfoldable pub starts_of : List ℕ → List ℕ
starts_of file = map (λ name. part_start (place_of file name)) field_names

unfoldable pub lengths_of : List ℕ → List ℕ
lengths_of file = map (λ name. part_length (place_of file name)) field_names

-- the answer by a file's number and the entries of its document, for two buffers with room for so many elements: the number of a refused file, 25
-- where there is no room for all fields, else the set of the named fields that are present
abbrev pub opening_by : ℕ → Entries → ℕ → ℕ → Result ℕ ℕ
opening_by n es starts lengths =
    cond (eqb n accepted)
    (cond (leb field_count starts && leb field_count lengths) (Ok (presence_of es)) (Err buffer_too_small))
    (Err n)

-- the answer for any file
unfoldable pub opening_of : List ℕ → ℕ → ℕ → Result ℕ ℕ
opening_of file starts lengths = opening_by (verdict_of file) (entries_of (document_of file)) starts lengths

-- a buffer afterwards: an element for each field at its start and everything beyond unchanged; on refusal, all unchanged
abbrev pub opened_buffer : Result ℕ ℕ → List ℕ → List ℕ → List ℕ
opened_buffer (Ok set) elements old = elements ++ drop (length elements) old
opened_buffer (Err r) elements old = old

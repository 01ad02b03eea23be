-- Demand 3: the files that are accepted, stated from documents outwards, and the number of every file. No reader, no cursor and no place stands
-- in `Accepted`, nor in what it names, but for a column's own bytes, which demand 2's definition decodes. No lemma stands here; that the number
-- is 0 exactly for an accepted file is `accepted-exactly` of Laws/Accepted.antt. Assumes nothing.
use Rattle.std.specs.Prelude.{List, ℕ, ◌≤◌, length}
use Rattle.refusal.specs.First.{or_else}
use Rattle.messagepack.specs.Limits.{file_limit, nesting_limit}
use Rattle.messagepack.specs.Document.{Entries, map, Writes}
use Rattle.messagepack.specs.Rules.{depth, Keeps}
use Rattle.messagepack.specs.Walk.{container_number}
use Rattle.messagepack.specs.Read.{document_of}
use Rattle.values.specs.Parts.{entries_of}
use Rattle.fields.specs.Types.{Has, Fits}
use Rattle.fields.specs.Table.{named}
use Rattle.fields.specs.Fields.{version_of, VersionOne, fields_number}
use Rattle.file_columns.specs.Columns.{columns, AllRight, columns_number}
use Rattle.counts.specs.Counts.{counted_of, CountsAgree, counts_number}

-- the file is a writing of some document: a map that keeps the limits, holds every required field, each named field of its type, with major
-- version 1, each named column of its field's kind and decoding, and every count, index and listed value right
pub record Accepted (file : List ℕ) : Type 0 where
  pub entries : Entries
  pub writes : Writes (map entries) file
  pub fits : length file ≤ file_limit
  pub nested : depth (map entries) ≤ nesting_limit
  pub keeps : Keeps (map entries)
  pub required : Has named entries
  pub typed : Fits named entries
  pub version : VersionOne (version_of entries)
  pub columns : AllRight columns entries
  pub counts : CountsAgree (counted_of entries)

-- what is asked of a container's document, in the order of the refusals
abbrev pub entries_number : Entries → ℕ
entries_number es = or_else (fields_number es) (or_else (columns_number es) (counts_number (counted_of es)))

-- the verdict on a file: the container's number, else that of its document
unfoldable pub verdict_of : List ℕ → ℕ
verdict_of file = or_else (container_number file) (entries_number (entries_of (document_of file)))

-- What a document must keep to stand in a file, and the files that hold one (paper 01, "What the station reads and writes" and "Lead bytes").
-- No reader, no place and no lemma stands here. Assumes nothing.
use Rattle.std.specs.Prelude.{ℕ, suc, ◌≤◌, max, List, length, ℤ, pos, negsuc, ◌≢◌}
use Rattle.numbers.specs.Ranges.{integer_limit}
use Rattle.utf8.specs.Utf8.{Utf8}
use Rattle.messagepack.specs.Limits.{file_limit, nesting_limit, entry_limit}
use Rattle.messagepack.specs.Document.{Document, Documents, Entries, integer, float, string, binary, array, map, none, item, empty, entry, size, Writes}

-- how deep arrays and maps stand in one another
unfoldable mutual
  pub depth : Document → ℕ
  depth (integer v) = 0
  depth (float bits) = 0
  depth (string t) = 0
  depth (binary t) = 0
  depth (array ds) = suc (depth_all ds)
  depth (map es) = suc (depth_entries es)

  -- of the deepest of an array's values
  pub depth_all : Documents → ℕ
  depth_all none = 0
  depth_all (item d ds) = max (depth d) (depth_all ds)

  -- of the deepest of a map's values
  pub depth_entries : Entries → ℕ
  depth_entries empty = 0
  depth_entries (entry k d es) = max (depth d) (depth_entries es)

-- an integer is -2,147,483,648 to 2,147,483,647
abbrev pub InRange : ℤ → Type 0
InRange (pos n) = n ≤ integer_limit
InRange (negsuc n) = n ≤ integer_limit

-- t is no key of the entries
unfoldable pub NoKey : List ℕ → Entries → Type 0
NoKey t empty = Unit {0}
NoKey t (entry k d es) = (t ≢ k) × NoKey t es

-- the keys are different in their bytes
unfoldable pub Distinct : Entries → Type 0
Distinct empty = Unit {0}
Distinct (entry k d es) = NoKey k es × Distinct es

-- integers are in range, strings and keys are UTF-8, a map has at most 256 entries and different keys; so in every value inside
unfoldable mutual
  pub Keeps : Document → Type 0
  Keeps (integer v) = InRange v
  Keeps (float bits) = Unit {0}
  Keeps (string t) = Utf8 t
  Keeps (binary t) = Unit {0}
  Keeps (array ds) = KeepsAll ds
  Keeps (map es) = (size es ≤ entry_limit) × Distinct es × KeepsEntries es

  -- each value of an array
  pub KeepsAll : Documents → Type 0
  KeepsAll none = Unit {0}
  KeepsAll (item d ds) = Keeps d × KeepsAll ds

  -- each key and value of a map
  pub KeepsEntries : Entries → Type 0
  KeepsEntries empty = Unit {0}
  KeepsEntries (entry k d es) = Utf8 k × Keeps d × KeepsEntries es

-- a file within the limit that is a writing of a map which keeps the rules
pub record Container (file : List ℕ) : Type 0 where
  pub fits : length file ≤ file_limit
  pub entries : Entries
  pub writes : Writes (map entries) file
  pub nested : depth (map entries) ≤ nesting_limit
  pub keeps : Keeps (map entries)

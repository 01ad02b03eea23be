-- The document that bytes are a writing of, read back with no rule tested: what is asked of a file after its container is defined on it.
-- That it is the document is `document_of-is` of Laws/Unique.antt. No file's acceptance is defined by it, and no lemma stands here. Assumes nothing.
use Rattle.std.specs.Prelude.{ℕ, zero, suc, List, take, drop, pos, slice_index, Option, Some, None}
use Rattle.heads.specs.Lead.{more_of}
use Rattle.heads.specs.Head.{kind_at, head_at}
use Rattle.heads.specs.declared.Kind.{Kind}
use Rattle.heads.specs.declared.Head.{Head}
use Rattle.messagepack.specs.Limits.{nesting_limit}
use Rattle.messagepack.specs.Document.{Document, Documents, Entries, integer, float, string, binary, array, map, none, item, empty, entry, signed_value}

-- what is read first, and the bytes after it
pub data Read (A : Type 0) : Type 0 where
  read : A → List ℕ → Read A
  fault : Read A

-- one reading after another
abbrev pub then_read : {A B : Type 0} → Read A → (A → List ℕ → Read B) → Read B
then_read (read a r) f = f a r
then_read fault f = fault

-- what a head says, and the bytes after it
abbrev pub read_head : {A : Type 0} → List ℕ → Option Head → (ℕ → List ℕ → Read A) → Read A
read_head s (Some h) f = f h.number (drop h.end s)
read_head s None f = fault

-- n documents one after another, each by f
unfoldable pub read_all : (List ℕ → Read Document) → ℕ → List ℕ → Read Documents
read_all f zero s = read none s
read_all f (suc n) s = then_read (f s) (λ d r. then_read (read_all f n r) (λ ds q. read (item d ds) q))

-- n entries one after another, each value by f
unfoldable pub read_entries : (List ℕ → Read Document) → ℕ → List ℕ → Read Entries
read_entries f zero s = read empty s
read_entries f (suc n) s =
    read_head s (head_at s 0) (λ m r. then_read (f (drop m r)) (λ d q. then_read (read_entries f n q) (λ es t. read (entry (take m r) d es) t)))

-- a document by the kind and the number of its head, and the bytes after that
abbrev pub read_kind : List ℕ → (ℕ → List ℕ → Read Documents) → (ℕ → List ℕ → Read Entries) → Kind → ℕ → List ℕ → Read Document
read_kind s fa fm Kind.Unsigned n r = read (integer (pos n)) r
read_kind s fa fm Kind.Signed n r = read (integer (signed_value (more_of (slice_index s 0)) n)) r
read_kind s fa fm Kind.Float n r = read (float n) r
read_kind s fa fm Kind.Str n r = read (string (take n r)) (drop n r)
read_kind s fa fm Kind.Bin n r = read (binary (take n r)) (drop n r)
read_kind s fa fm Kind.Array n r = then_read (fa n r) (λ ds q. read (array ds) q)
read_kind s fa fm Kind.Map n r = then_read (fm n r) (λ es q. read (map es) q)
read_kind s fa fm Kind.Outside n r = fault
read_kind s fa fm Kind.Missing n r = fault

-- a document of fewer than so many levels
unfoldable pub read_value : ℕ → List ℕ → Read Document
read_value zero s = fault
read_value (suc d) s = read_head s (head_at s 0) (read_kind s (read_all (read_value d)) (read_entries (read_value d)) (kind_at s 0))

-- what was read, or an empty map
abbrev pub document_in : Read Document → Document
document_in (read x r) = x
document_in fault = map empty

-- the document of a file
unfoldable pub document_of : List ℕ → Document
document_of s = document_in (read_value (suc nesting_limit) s)

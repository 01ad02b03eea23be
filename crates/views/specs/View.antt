-- A view by name: the part of a file that shows an outer key's value (paper 01, "Views and the receipt").
-- Stated from documents outwards: an entry and its writing, with what stands before and after it. The place and the part are given by the
-- definitions of Place.antt. No lemma stands here. Assumes nothing.
use Rattle.std.specs.Prelude.{Err, ◌≡◌, Bool, true, false, cond, ◌||◌, List, [], ◌++◌, ℕ, suc, ◌+◌, ◌-◌, ◌<◌, eqb, length}
use Rattle.std.proofs.Math.Option.{Option, some, none}
use Rattle.refusal.specs.Table.{accepted, no_such_field}
use Rattle.text.specs.Equal.{equal}
use Rattle.heads.specs.Head.{HeadOf}
use Rattle.heads.specs.declared.Kind.{Kind}
use Rattle.messagepack.specs.Document.{Document, Entries, integer, float, string, binary, array, map, empty, entry, size, TextOf, Writes, WritesEntries}
use Rattle.messagepack.specs.Rules.{Container}
use Rattle.messagepack.specs.Walk.{container_number}
use Rattle.messagepack.specs.Read.{document_of}
use Rattle.values.specs.Parts.{entries_of, look}
use Rattle.views.specs.Place.{Place, some_part}

-- in the file, which is a map's writing, the value x of the outer key name is written w
pub record EntryIn (file name : List ℕ) (x : Document) (w : List ℕ) : Type 0 where
  pub before : Entries
  pub after : Entries
  pub head_bytes : List ℕ
  pub earlier-bytes : List ℕ
  pub key-bytes : List ℕ
  pub later-bytes : List ℕ
  pub head : HeadOf Kind.Map (size before + suc (size after)) head_bytes
  pub earlier : WritesEntries before earlier-bytes
  pub key : TextOf Kind.Str name key-bytes
  pub value : Writes x w
  pub later : WritesEntries after later-bytes
  pub is : file ≡ head_bytes ++ (earlier-bytes ++ (key-bytes ++ (w ++ later-bytes)))

-- what is shown of a value with the writing w: the body of a string or a binary, else the whole writing
abbrev pub shown : Document → List ℕ → List ℕ
shown (string t) w = t
shown (binary t) w = t
shown (integer v) w = w
shown (float bits) w = w
shown (array ds) w = w
shown (map es) w = w

-- a file that passes as a container, with such an entry
pub record Viewable (file name : List ℕ) : Type 0 where
  pub container : Container file
  pub x : Document
  pub w : List ℕ
  pub entry-is : EntryIn file name x w

-- where the part starts: after what stands before the value, and after the head of a string or a binary
abbrev pub start_of : {file name : List ℕ} → Viewable file name → ℕ
start_of v =
    length v.entry-is.head_bytes + length v.entry-is.earlier-bytes + length v.entry-is.key-bytes + (length v.w - length (shown v.x v.w))

-- is name a key of the entries?
unfoldable pub has_key : List ℕ → Entries → Bool
has_key name empty = false
has_key name (entry k x es) = equal k name || has_key name es

-- the refusal: the container's, else 26 where there is no such key
unfoldable pub view_number : List ℕ → List ℕ → ℕ
view_number file name =
    cond (eqb (container_number file) accepted) (cond (has_key name (entries_of (document_of file))) accepted no_such_field) (container_number file)

-- the value under an outer key of a container, if there is one
abbrev pub value_under : List ℕ → List ℕ → Option Document
value_under file name = cond (eqb (container_number file) accepted) (look name (entries_of (document_of file))) none

-- is a value there, and a binary?
abbrev pub is_binary_value : Option Document → Bool
is_binary_value (some (binary t)) = true
is_binary_value (some (integer v)) = false
is_binary_value (some (float bits)) = false
is_binary_value (some (string t)) = false
is_binary_value (some (array ds)) = false
is_binary_value (some (map es)) = false
is_binary_value none = false

-- is the value under an outer key of a container a binary?
unfoldable pub binary_under : List ℕ → List ℕ → Bool
binary_under file name = cond (eqb (container_number file) accepted) (is_binary_value (look name (entries_of (document_of file)))) false

-- the place of the part, or the refusal where there is none
pub data Placed (file name : List ℕ) : Place → Type 0 where
  placed : (v : Viewable file name) → Placed file name (some_part (start_of v) (length (shown v.x v.w)))
  refused : {n : ℕ} → 0 < n → n ≡ view_number file name → (Viewable file name → ⊥) → Placed file name (Err n)

-- the part: what is shown of the value, or nothing
pub data Viewed (file name : List ℕ) : List ℕ → Type 0 where
  viewed : (v : Viewable file name) → Viewed file name (shown v.x v.w)
  nothing : (Viewable file name → ⊥) → Viewed file name []

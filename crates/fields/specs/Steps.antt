-- What the functions inside say of whatever stands at a place. For the code inside. No lemma stands here. Assumes nothing.
use Rattle.std.specs.Prelude.{◌≡◌, Bool, true, false, cond, ◌&&◌, ◌||◌, List, [], ℕ, ◌+◌, ◌<◌, eqb, leb, length, get_or, replicate}
use Rattle.std.specs.Int.Bits.{bit_or}
use Rattle.heads.specs.declared.Kind.{Kind}
use Rattle.messagepack.specs.Document.{Document, Entries}
use Rattle.values.specs.Walked.{Walked, WalkedAll, WalkedEntries}
use Rattle.fields.specs.Types.{Rows}
use Rattle.fields.specs.Table.{named, field_count}
use Rattle.fields.specs.Tests.{all, fitting}
use Rattle.fields.specs.Fields.{field_names, set_of, present}
use Rattle.fields.specs.Noted.{SpanFrom}
use Rattle.fields.specs.Numbers.{covered, row_test}
use Rattle.fields.specs.declared.Fields.{Fields}

-- where a value ends, if it passes, else 0
abbrev pub ends_if : Bool → ℕ → ℕ
ends_if true e = e
ends_if false e = 0

-- the number of a kind, as `Types.document_kind` has it of a document; 0 of no kind
abbrev pub head_kind : Kind → ℕ
head_kind Kind.Unsigned = 1
head_kind Kind.Signed = 1
head_kind Kind.Float = 2
head_kind Kind.Str = 3
head_kind Kind.Bin = 4
head_kind Kind.Array = 5
head_kind Kind.Map = 6
head_kind Kind.Outside = 0
head_kind Kind.Missing = 0

-- has a value of a kind a body after its head: is it a string or a binary?
abbrev pub has_body : ℕ → Bool
has_body kind = eqb kind 3 || eqb kind 4

-- where a value of a kind that holds no others ends, if it is of the kind that is wanted, else 0: its head holds n and ends at p, in a file of some length
abbrev pub plain_end : ℕ → ℕ → ℕ → ℕ → ℕ → ℕ
plain_end length kind wanted n p =
    cond (eqb kind wanted) (cond (has_body kind) (cond (leb (p + n) length) (p + n) 0) p) 0

-- of the document at a place: where it ends, if it passes a test, else 0
pub record ValueSays (s : List ℕ) (f : Document → Bool) (at : ℕ) (r : ℕ) : Type 0 where
  pub says : Walked s at (λ x e. r ≡ ends_if (f x) e)

-- of the n values of an array from a place on: where they end, if all pass, else 0
pub record ItemsSay (s : List ℕ) (f : Document → Bool) (n at : ℕ) (r : ℕ) : Type 0 where
  pub says : WalkedAll s n at (λ ds e. r ≡ ends_if (all f ds) e)

-- of n values of an array from a place on: those before another place pass and end there, and so many are left
pub record RunSays (s : List ℕ) (f : Document → Bool) (n at left p : ℕ) : Type 0 where
  pub says : (r : ℕ) → ItemsSay s f left p r → ItemsSay s f n at r

-- of the n entries of a map from a place on, when a set of rows has been seen before: where they end, if each named key has its type and all
-- required ones have been seen
pub record EntriesSay (s : List ℕ) (rows : Rows) (seen n at : ℕ) (r : ℕ) : Type 0 where
  pub says : WalkedEntries s n at (λ es e. r ≡ ends_if (fitting rows es && covered rows (bit_or seen (set_of (present rows es)))) e)

-- of the document at a place: where it ends, and whether it has the type of row i of the named fields
pub record RowSays (s : List ℕ) (i at : ℕ) (e : ℕ) (b : Bool) : Type 0 where
  pub says : Walked s at (λ x f. (e ≡ f) × (b ≡ row_test i named x))

-- what is noted in the end of the entries from p on, when some has been noted before
pub record NotedFrom (s : List ℕ) (p : ℕ) (places ends : List ℕ) (presence : ℕ) (typed : Bool) (es : Entries) (r : Fields) : Type 0 where
  pub long : length r.places ≡ field_count
  pub span : (i : ℕ) → i < field_count → SpanFrom s (get_or field_names i []) p es (get_or places i 0) (get_or ends i 0) (get_or r.places i 0) (get_or r.ends i 0)
  pub present : r.presence ≡ bit_or presence (set_of (present named es))
  pub fit : r.typed ≡ (typed && fitting named es)

-- what is noted in the end of the n entries from a place on, when some has been noted before
pub record NoteSays (s : List ℕ) (places ends : List ℕ) (presence : ℕ) (typed : Bool) (n at : ℕ) (r : Fields) : Type 0 where
  pub says : WalkedEntries s n at (λ es e. NotedFrom s at places ends presence typed es r)

-- no places
abbrev pub no_places : List ℕ
no_places = replicate field_count 0

-- What an inner step promises. An inner step is a public function of a crate inside, which takes a place of a file. It is safe for all inputs: it
-- ends, and stays inside what it is lent. It promises a meaning only for a file that has been walked: a document that keeps the rules stands at
-- the place. The calls that C, Python and the
-- program reach have no such condition: those that take a file walk it first, and all promise their results for all bytes.
--
-- These inner steps promise a result for all bytes (*values* `Heads`), and its meaning for a walked file:
--   values::integer_at             the integer at a place, else 0
--   values::text_at                the bytes of the string or the binary at a place, else none
--   values::key_at                 the same
--   values::items_at               the values of the array at a place, else none
--   values::entries_at             the entries of the map at a place, else none
--
-- These promise only what they mean for a walked file:
--   values::skip                   where the value at a place ends
--   values::keys::find             the place of the value under a key of the map at a place, or 0
--   values::lists::sum_at          the sum of the integers of the array at a place, in a file within the limit
--   values::lists::all_between     whether the integers of the array at a place lie between two numbers
--   values::lists::inside          whether the integers of the array at a place are indices of a table of n entries
--   values::lists::length_at       whether an array stands at a place, and how many values it has
--   fields::note                   where the named fields of a map's entries stand and end, which are there, and whether each has its type
--   fields::refusal_of             the refusal 12, 13 or 24 by what `fields::note` noted, or 0
--   fields::is_typed               whether the value at a place has the type of a named field
--   file_columns::columns_refusal  the refusal of the first column that has one, 14 to 19, or 0
--   file_columns::lengths_fit      whether each column has its length, where the columns decode
--   file_columns::length_at        the length of the column at a place, which decodes
--   file_columns::all_between      whether the cells of the column at a place, which decodes, lie between two numbers
--   file_columns::totals           the sums of two tables over the cells of the column at a place, which decodes
--   counts::counts_at              the five num fields at their places, where the required fields are there and the columns decode
--   counts::refusal_of             the refusal by the eleven rules, 20 to 23, or 0, where the required fields are there and the columns decode
--   structure::document_refusal    the refusal of a file by what `fields::note` noted, 12 to 24, or 0, in a file within the limit
--
-- No lemma stands here. Assumes nothing.
use Rattle.std.specs.Prelude.{◌≡◌, List, ℕ, ◌≤◌, length}
use Rattle.std.proofs.Math.Option.{Option}
use Rattle.messagepack.specs.Document.{Document, Documents, Entries, count, size}
use Rattle.messagepack.specs.Limits.{file_limit}
use Rattle.values.specs.Places.{At, AtAll, AtEntries, PlaceSays}
use Rattle.values.specs.Standing.{Standing}

-- a file is within the limit, as every file is that has been walked from its first byte
abbrev pub Short : List ℕ → Type 0
Short file = length file ≤ file_limit

-- a promise on a file that has been walked, by the document at a place and where it ends
abbrev pub Walked : List ℕ → ℕ → (Document → ℕ → Type 0) → Type 0
Walked file at P = (x : Document) (e : ℕ) → At file at x e → P x e

-- a promise on a walked file, by the n values of an array that stand from a place on, and where they end
abbrev pub WalkedAll : List ℕ → ℕ → ℕ → (Documents → ℕ → Type 0) → Type 0
WalkedAll file n at P = (ds : Documents) (e : ℕ) → AtAll file at ds e → count ds ≡ n → P ds e

-- a promise on a walked file, by the n entries of a map that stand from a place on, and where they end
abbrev pub WalkedEntries : List ℕ → ℕ → ℕ → (Entries → ℕ → Type 0) → Type 0
WalkedEntries file n at P = (es : Entries) (e : ℕ) → AtEntries file at es e → size es ≡ n → P es e

-- a promise on a walked file, by whatever is known to stand in it
abbrev pub WalkedBy : {A : Type 0} → (A → Type 0) → (A → Type 0) → Type 0
WalkedBy {A} Stands P = (a : A) → Stands a → P a

-- a promise on a walked file, by the document at a place, or that there is none where the place is 0
abbrev pub WalkedPlace : List ℕ → ℕ → (Option Document → Type 0) → Type 0
WalkedPlace file at P = WalkedBy (PlaceSays file at) P

-- a promise on a walked file, by the end of the value at a place, whatever its strings and keys are
abbrev pub WalkedOver : List ℕ → ℕ → (ℕ → Type 0) → Type 0
WalkedOver file at P = (e : ℕ) → Standing file 1 at e → P e

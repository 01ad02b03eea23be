-- What the pass over a file's entries notes of its named fields: the place and the end of each, and what the contracts say of it. No lemma stands here.
-- Assumes nothing.
use Rattle.std.specs.Prelude.{◌≡◌, true, false, List, [], ℕ, ◌<◌, length, get_or}
use Rattle.std.proofs.Math.Option.{none as nothing}
use Rattle.text.specs.Equal.{equal}
use Rattle.messagepack.specs.Document.{Document, Entries, string, entry}
use Rattle.values.specs.Parts.{look}
use Rattle.values.specs.Places.{At, PlaceSays}
use Rattle.fields.specs.Tests.{fitting}
use Rattle.fields.specs.Table.{named, field_count}
use Rattle.fields.specs.Fields.{field_names, field_at, presence_of}
use Rattle.fields.specs.declared.Fields.{Fields}

-- the places of the named fields among a file's entries
pub record PlacesOf (s : List ℕ) (es : Entries) (places : List ℕ) : Type 0 where
  pub long : length places ≡ field_count
  pub says : (i : ℕ) → i < field_count → PlaceSays s (get_or places i 0) (field_at i es)

-- what is noted of a file's entries: the places of the named fields, the set of those present, and whether each of them has its type
pub record Noted (s : List ℕ) (es : Entries) (r : Fields) : Type 0 where
  pub places : PlacesOf s es r.places
  pub presence : r.presence ≡ presence_of es
  pub typed : r.typed ≡ fitting named es

-- among the entries that stand from p on, the value under the key k stands from q up to e
pub data Among (s k : List ℕ) : ℕ → Entries → ℕ → ℕ → Type 0 where
  first : {p q e : ℕ} {l : List ℕ} {x : Document} {es : Entries} → equal l k ≡ true → At s p (string l) q → At s q x e → Among s k p (entry l x es) q e
  later : {p r n q e : ℕ} {l : List ℕ} {x : Document} {es : Entries} → equal l k ≡ false → At s p (string l) r → At s r x n → Among s k n es q e → Among s k p (entry l x es) q e

-- where the value under the key k stands among the entries from p on: from q up to e, or nowhere, and then q and e are those given
pub data SpanFrom (s k : List ℕ) (p : ℕ) (es : Entries) (q e : ℕ) : ℕ → ℕ → Type 0 where
  absent : look k es ≡ nothing → SpanFrom s k p es q e q e
  stands : {a b : ℕ} → 0 < a → Among s k p es a b → SpanFrom s k p es q e a b

-- what is noted of the entries from p on: of each named field the value's place and its end, 0 and 0 where the field is absent
pub record Spanned (s : List ℕ) (p : ℕ) (es : Entries) (r : Fields) : Type 0 where
  pub spans : (i : ℕ) → i < field_count → SpanFrom s (get_or field_names i []) p es 0 0 (get_or r.places i 0) (get_or r.ends i 0)

-- A file opened: the answer by what is read, what the buffers hold, and how both go with the verdict, the set of fields and the views.
-- Assumes nothing.
use Rattle.std.specs.Prelude.{◌≡◌, refl, Ok, Err, false, ◌&&◌, List, [], ◌∷◌, map, ℕ, zero, suc, ◌≤◌, ◌<◌, leb, length, get_or}
use Rattle.std.proofs.Common.{sym, ap, ◌∙◌, arith, eq-eqb, ne_eqb, le-leb}
use Rattle.std.proofs.Math.Path.{ap₂}
use Rattle.std.proofs.lemmas.List.{length-map}
use Rattle.refusal.specs.Table.{accepted, buffer_too_small}
use Rattle.numbers.specs.BigEndian.{Bytes}
use Rattle.messagepack.specs.Document.{Entries}
use Rattle.messagepack.specs.Rules.{Container}
use Rattle.messagepack.specs.Walk.{container_number}
use Rattle.values.specs.Parts.{entries_of}
use Rattle.views.specs.Place.{place_of}
use Rattle.fields.specs.Table.{named, field_count}
use Rattle.fields.specs.Fields.{names_of, field_names, presence_of}
use Rattle.structure.specs.Accepted.{Accepted, entries_number, verdict_of}
use Rattle.structure.proofs.Laws.Accepted.{accepted-exactly, container-document, one-document, verdict-container, verdict-document}
use Rattle.opening.specs.Opening.{fields_room, part_start, part_length, starts_of, lengths_of, opening_by, opening_of}
use Rattle.opening.specs.Steps.{span_place, SpansSay}

-- The elements of the buffers

-- there is a name for each field
names-count : length field_names ≡ field_count
unfolding field_names names_of named
names-count = refl

-- and room for each of them
pub fields-room : field_count ≤ fields_room
fields-room = omega arith

map_at : (f : List ℕ → ℕ) (l : List (List ℕ)) (i : ℕ) → i < length l → get_or (map f l) i 0 ≡ f (get_or l i [])
map_at f [] i lt = absurd (omega arith)
map_at f (x ∷ l) zero lt = refl
map_at f (x ∷ l) (suc i) lt = map_at f l i (omega arith)

pub starts-count : (s : List ℕ) → length (starts_of s) ≡ field_count
unfolding starts_of
starts-count s = length-map field_names (λ name. part_start (place_of s name)) ∙ names-count

pub lengths-count : (s : List ℕ) → length (lengths_of s) ≡ field_count
unfolding lengths_of
lengths-count s = length-map field_names (λ name. part_length (place_of s name)) ∙ names-count

-- the start and the length of a field are those of its view

pub start-at : (s : List ℕ) (i : ℕ) → i < field_count → get_or (starts_of s) i 0 ≡ part_start (place_of s (get_or field_names i []))
unfolding starts_of
start-at s i lt = map_at (λ name. part_start (place_of s name)) field_names i (omega (arith, names-count))

pub length_at : (s : List ℕ) (i : ℕ) → i < field_count → get_or (lengths_of s) i 0 ≡ part_length (place_of s (get_or field_names i []))
unfolding lengths_of
length_at s i lt = map_at (λ name. part_length (place_of s name)) field_names i (omega (arith, names-count))

-- and by what is noted those of its span

module _ {s places ends : List ℕ} (h : SpansSay s places ends) (i : ℕ) (lt : i < field_count) where
  pub start-noted : part_start (span_place s (get_or places i 0) (get_or ends i 0)) ≡ get_or (starts_of s) i 0
  start-noted = sym (start-at s i lt ∙ ap part_start (h.says i lt))

  pub length-noted : part_length (span_place s (get_or places i 0) (get_or ends i 0)) ≡ get_or (lengths_of s) i 0
  length-noted = sym (length_at s i lt ∙ ap part_length (h.says i lt))

-- The answer

-- by the container's number
pub opening-container : (s : List ℕ) (a b n : ℕ) → (n ≡ accepted → ⊥) → n ≡ container_number s → Err n ≡ opening_of s a b
unfolding opening_of
opening-container s a b n h q =
    let e : n ≡ verdict_of s = verdict-container s n h q in
    rw (← e, ne_eqb n accepted h)

-- by its document's
module _ {s : List ℕ} (c : Container s) (z : container_number s ≡ accepted) (a b n : ℕ) (q : n ≡ entries_number c.entries) where
  by-document : opening_by n c.entries a b ≡ opening_of s a b
  unfolding opening_of
  by-document = ap₂ (λ (m : ℕ) (es : Entries). opening_by m es a b) (verdict-document s n c z q) (ap entries_of (sym (container-document c)))

  pub opening-document : (n ≡ accepted → ⊥) → Err n ≡ opening_of s a b
  opening-document h = rw (ne_eqb n accepted h) at by-document

  pub opening-short : n ≡ accepted → (leb field_count a && leb field_count b) ≡ false → Err buffer_too_small ≡ opening_of s a b
  opening-short e f = rw (eq-eqb n accepted e, f) at by-document

  pub opening-accepted : n ≡ accepted → field_count ≤ a → field_count ≤ b → {set : ℕ} → set ≡ presence_of c.entries → Ok set ≡ opening_of s a b
  opening-accepted e f g p = ap Ok p ∙ (rw (eq-eqb n accepted e, le-leb field_count a f, le-leb field_count b g) at by-document)

-- by the verdict: a refused file is refused with its number, whatever the room

pub opening-refused : (s : List ℕ) (a b : ℕ) → (verdict_of s ≡ accepted → ⊥) → opening_of s a b ≡ Err (verdict_of s)
unfolding opening_of
opening-refused s a b h = rw (ne_eqb (verdict_of s) accepted h)

-- and an accepted one is opened with the set of its fields, where there is room
pub opening-present : {s : List ℕ} → Bytes s → (f : Accepted s) (a b : ℕ) → field_count ≤ a → field_count ≤ b → opening_of s a b ≡ Ok (presence_of f.entries)
unfolding opening_of
opening-present {s} bytes f a b k l =
    rw ((accepted-exactly s bytes).1 f, le-leb field_count a k, le-leb field_count b l, one-document f)

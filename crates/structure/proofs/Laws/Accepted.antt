-- Demand 3: the verdict is 0 exactly for an accepted file. The numbers of fields, columns and counts are 0 exactly when what they ask holds; the
-- container's is 0 exactly for a writing of a map that keeps the rules; and the document that was judged is the one that the file is a writing of,
-- since there is no other.
-- Assumes nothing.
use Rattle.std.specs.Prelude.{◌≡◌, List, ◌↔◌, ℕ}
use Rattle.std.proofs.Common.{sym, ap, subst, ◌∙◌}
use Rattle.refusal.specs.Table.{accepted}
use Rattle.refusal.specs.First.{or_else}
use Rattle.refusal.proofs.Laws.First.{or_else-left, or_else-right, or_else-zero, refused-or_else, passed-or_else}
use Rattle.numbers.specs.BigEndian.{Bytes}
use Rattle.messagepack.specs.Document.{Document, Entries, map, Writes}
use Rattle.messagepack.specs.Rules.{Container}
use Rattle.messagepack.specs.Walk.{container_number}
use Rattle.messagepack.specs.Read.{document_of}
use Rattle.messagepack.proofs.Laws.Container.{container-exactly}
use Rattle.messagepack.proofs.Laws.Unique.{no-two-documents, document_of-is}
use Rattle.values.specs.Parts.{entries_of}
use Rattle.fields.specs.Fields.{FieldsRight, fields_number}
use Rattle.fields.specs.Laws.Fields.{fields-exactly}
use Rattle.file_columns.specs.Columns.{columns, AllRight, columns_number}
use Rattle.counts.specs.Counts.{counted_of, CountsAgree, counts_number}
use Rattle.structure.specs.Accepted.{Accepted, entries_number, verdict_of}
use Rattle.file_columns.specs.Laws.Columns.{columns-exactly}
use Rattle.counts.proofs.Laws.Counts.{counts-exactly}

-- what is asked of a container's document has the number 0 exactly when its fields, its columns and its counts are right
pub entries-exactly : (es : Entries) → (entries_number es ≡ 0) ↔ (FieldsRight es × AllRight columns es × CountsAgree (counted_of es))
entries-exactly es = (there, back)
  where
    rest : ℕ
    rest = or_else (columns_number es) (counts_number (counted_of es))

    there : or_else (fields_number es) rest ≡ 0 → FieldsRight es × AllRight columns es × CountsAgree (counted_of es)
    there e =
        let r : rest ≡ 0 = or_else-right (fields_number es) rest e in (
          (fields-exactly es).0 (or_else-left (fields_number es) rest e),
          (columns-exactly es).0 (or_else-left (columns_number es) (counts_number (counted_of es)) r),
          (counts-exactly (counted_of es)).0 (or_else-right (columns_number es) (counts_number (counted_of es)) r),
        )

    back : FieldsRight es × AllRight columns es × CountsAgree (counted_of es) → or_else (fields_number es) rest ≡ 0
    back h =
        or_else-zero (fields_number es) rest ((fields-exactly es).1 h.0)
        (or_else-zero (columns_number es) (counts_number (counted_of es)) ((columns-exactly es).1 h.1) ((counts-exactly (counted_of es)).1 h.2))

-- an accepted file is a container
abbrev pub accepted-container : {s : List ℕ} → Accepted s → Container s
accepted-container a = record { fits = a.fits; entries = a.entries; writes = a.writes; nested = a.nested; keeps = a.keeps }

-- the document of a container is its map
pub container-document : {s : List ℕ} (c : Container s) → document_of s ≡ map c.entries
container-document {s} c = document_of-is (map c.entries) s c.writes c.nested

-- the document of an accepted file is the one that its acceptance speaks of
pub one-document : {s : List ℕ} (a : Accepted s) → document_of s ≡ map a.entries
one-document a = container-document (accepted-container a)

-- and the file is a writing of no other
pub only-document : {s : List ℕ} (a : Accepted s) (d : Document) → Writes d s → d ≡ map a.entries
only-document {s} a d w = no-two-documents d (map a.entries) s w a.writes

-- a container is accepted whose document is right
container-accepted : {s : List ℕ} (c : Container s) → FieldsRight c.entries × AllRight columns c.entries × CountsAgree (counted_of c.entries) → Accepted s
container-accepted c h = record {
  entries = c.entries;
  writes = c.writes;
  fits = c.fits;
  nested = c.nested;
  keeps = c.keeps;
  required = h.0.has;
  typed = h.0.fits;
  version = h.0.version;
  columns = h.1;
  counts = h.2;
}

-- the verdict is 0 exactly for an accepted file
pub accepted-exactly : (s : List ℕ) → Bytes s → (verdict_of s ≡ 0) ↔ Accepted s
unfolding verdict_of
accepted-exactly s bytes = (there, back)
  where
    asked : ℕ
    asked = entries_number (entries_of (document_of s))

    there : or_else (container_number s) asked ≡ 0 → Accepted s
    there e =
        let c : Container s = (container-exactly s bytes).0 (or_else-left (container_number s) asked e) in
        let z : entries_number c.entries ≡ 0 = subst (λ (d : Document). entries_number (entries_of d) ≡ 0) (container-document c) (or_else-right (container_number s) asked e) in
        container-accepted c ((entries-exactly c.entries).0 z)

    back : Accepted s → or_else (container_number s) asked ≡ 0
    back a =
        let c : Container s = accepted-container a in
        let z : entries_number a.entries ≡ 0 =
        (entries-exactly a.entries).1 (record { has = a.required; fits = a.typed; version = a.version }, a.columns, a.counts) in
        or_else-zero (container_number s) asked ((container-exactly s bytes).1 c)
        (subst (λ (d : Document). entries_number (entries_of d) ≡ 0) (sym (container-document c)) z)

-- the verdict on a file: its container's number, else its document's

pub verdict-container : (s : List ℕ) (r : ℕ) → (r ≡ accepted → ⊥) → r ≡ container_number s → r ≡ verdict_of s
unfolding verdict_of
verdict-container s r h q = refused-or_else r (container_number s) (entries_number (entries_of (document_of s))) h q

pub verdict-document : (s : List ℕ) (r : ℕ) (c : Container s) → container_number s ≡ accepted → r ≡ entries_number c.entries → r ≡ verdict_of s
unfolding verdict_of
verdict-document s r c z q =
    passed-or_else r (container_number s) (entries_number (entries_of (document_of s))) z
    (q ∙ ap (λ (x : Document). entries_number (entries_of x)) (sym (container-document c)))

-- what is answered with the verdict's number is 0 exactly for an accepted file
pub verdict-says : (s : List ℕ) (r : ℕ) → Bytes s → r ≡ verdict_of s → (r ≡ verdict_of s) × ((r ≡ 0) ↔ Accepted s)
verdict-says s r bytes e = let x = accepted-exactly s bytes in (e, ((λ z. x.0 (sym e ∙ z)), (λ a. e ∙ x.1 a)))

-- What a receipt says of a file, by whether the file is accepted: of an accepted one what its document says, with counts and fields in the
-- receipt's ranges; of a refused one its number, which is not 0 and at most 24.
-- Assumes nothing.
use Rattle.std.specs.Prelude.{◌≡◌, refl, Result, Ok, Err, Bool, true, cond, ◌&&◌, List, ℕ, zero, suc, ◌≤◌, pos}
use Rattle.std.proofs.Common.{sym, ap, ap₂, ◌∙◌, arith, ne_eqb}
use Rattle.std.specs.Int.Count.{ones}
use Rattle.std.specs.Result.{IfOk}
use Rattle.refusal.specs.Table.{accepted, version_not1, refusal_number}
use Rattle.refusal.specs.declared.Refusal.{Refusal}
use Rattle.refusal.specs.Outcome.{number_of}
use Rattle.refusal.proofs.Laws.Table.{Outcome, refusal_number-injective}
use Rattle.refusal.specs.First.{or_else}
use Rattle.refusal.proofs.Laws.First.{or_else-most}
use Rattle.numbers.specs.BigEndian.{Bytes}
use Rattle.numbers.specs.Ranges.{between}
use Rattle.numbers.specs.Laws.Tests.{and_left}
use Rattle.messagepack.specs.Document.{Document, Entries}
use Rattle.messagepack.specs.Rules.{Container}
use Rattle.messagepack.specs.Walk.{container_number}
use Rattle.messagepack.specs.Read.{document_of}
use Rattle.messagepack.proofs.Laws.Container.{container-most}
use Rattle.values.specs.Parts.{entries_of}
use Rattle.fields.specs.Table.{named, field_count}
use Rattle.fields.specs.Fields.{presence_of, fields_number}
use Rattle.fields.specs.Laws.Types.{have-exactly}
use Rattle.fields.specs.Laws.Fields.{fields-most}
use Rattle.fields.specs.Laws.Sets.{ones-presence, present-least, present-most}
use Rattle.steps.specs.Fits.{Every}
use Rattle.file_columns.specs.Laws.Cells.{all_pass-every}
use Rattle.file_columns.specs.Columns.{columns_number}
use Rattle.counts.specs.Counts.{count_limit, Counted, counted_of, counts_right, numbers_right, CountsAgree, counts_number}
use Rattle.values.specs.Integers.{none_negative}
use Rattle.structure.specs.Accepted.{Accepted, entries_number, verdict_of}
use Rattle.structure.specs.Summary.{accepted_summary, refused, said, summary_of}
use Rattle.counts.specs.Steps.{CountsIn}
use Rattle.structure.specs.Steps.{accepted_with}
use Rattle.file_columns.specs.Laws.Columns.{columns-most}
use Rattle.counts.proofs.Laws.Counts.{counts-most}
use Rattle.structure.proofs.Laws.Accepted.{accepted-exactly, container-document, one-document, verdict-container, verdict-document}
use Rattle.counts.proofs.Laws.Steps.{natural-few, fit_is, counts-are}
use Rattle.counts.specs.declared.Counts.{Counts}
use Rattle.structure.specs.declared.Summary.{Summary}

-- The number

-- a verdict is at most that of the major version, 24
pub verdict-most : (s : List ℕ) → verdict_of s ≤ version_not1
unfolding verdict_of
verdict-most s =
    let es : Entries = entries_of (document_of s) in
    or_else-most (container_number s) (entries_number es) (omega (arith, container-most s))
    (or_else-most (fields_number es) (or_else (columns_number es) (counts_number (counted_of es))) (fields-most es)
    (or_else-most (columns_number es) (counts_number (counted_of es)) (omega (arith, columns-most es)) (omega (arith, counts-most (counted_of es)))))

-- a file that is not accepted has a number
pub verdict-refused : (s : List ℕ) → Bytes s → (Accepted s → ⊥) → verdict_of s ≡ 0 → ⊥
verdict-refused s bytes h z = h ((accepted-exactly s bytes).0 z)

-- a refusal has a number
pub refusal-numbered : (r : Refusal) → refusal_number r ≡ accepted → ⊥
refusal-numbered r z =
    let e : ◌≡◌ {A = Outcome} (Err r) (Ok record {}) = refusal_number-injective (Err r) (Ok record {}) z in
    let d : ◌≡◌ {A = ℕ} 0 1 = cc in
    absurd (omega arith)

-- What is said by a number

pub said-accepted : (n : ℕ) (es : Entries) → n ≡ accepted → said n es ≡ accepted_summary es
said-accepted n es z = rw z

pub said-refused : (n : ℕ) (es : Entries) → (n ≡ accepted → ⊥) → said n es ≡ refused n
said-refused n es h = ap (λ (b : Bool). cond b (accepted_summary es) (refused n)) (ne_eqb n accepted h)

said-verdict : (n : ℕ) (es : Entries) → (said n es).verdict ≡ n
said-verdict zero es = refl
said-verdict (suc n) es = ap (λ (r : Summary). r.verdict) (said-refused (suc n) es (λ z. omega arith))

-- What is said of a file

-- its verdict
pub summary-verdict : (s : List ℕ) → (summary_of s).verdict ≡ verdict_of s
unfolding summary_of
summary-verdict s = said-verdict (verdict_of s) (entries_of (document_of s))

-- of an accepted one
pub summary-accepted : (s : List ℕ) → Bytes s → (a : Accepted s) → summary_of s ≡ accepted_summary a.entries
unfolding summary_of
summary-accepted s bytes a =
    said-accepted (verdict_of s) (entries_of (document_of s)) ((accepted-exactly s bytes).1 a) ∙ ap (λ (d : Document). accepted_summary (entries_of d)) (one-document a)

-- of a refused one
pub summary-refused : (s : List ℕ) → Bytes s → (Accepted s → ⊥) → summary_of s ≡ refused (verdict_of s)
unfolding summary_of
summary-refused s bytes h = said-refused (verdict_of s) (entries_of (document_of s)) (verdict-refused s bytes h)

-- The ranges of an accepted file

-- the counts are at most the limit
pub record Few (r : Summary) : Type 0 where
  pub models : r.models ≤ count_limit
  pub chains : r.chains ≤ count_limit
  pub groups : r.groups ≤ count_limit
  pub atoms : r.atoms ≤ count_limit
  pub bonds : r.bonds ≤ count_limit

-- the num fields are in range where the rules of counts hold
in-range : (f : Counted) → numbers_right f ≡ true → counts_right f ≡ true
in-range f e = and_left (counts_right f) (none_negative f.groupsPerChain && none_negative f.chainsPerModel) e

pub accepted-few : {s : List ℕ} (a : Accepted s) → Few (accepted_summary a.entries)
unfolding Every
accepted-few a =
    let f : Counted = counted_of a.entries in
    let e = all_pass-every (between (pos 0) (pos count_limit)) _ (in-range f a.counts.numbers) in
    record {
      models = natural-few f.numModels e.1.1.1.1.0;
      chains = natural-few f.numChains e.1.1.1.0;
      groups = natural-few f.numGroups e.1.1.0;
      atoms = natural-few f.numAtoms e.1.0;
      bonds = natural-few f.numBonds e.0;
    }

-- the fields that are there are all required ones at least, and all named ones at most
pub accepted-fields : {s : List ℕ} (a : Accepted s) → (16 ≤ ones (presence_of a.entries)) × (ones (presence_of a.entries) ≤ field_count)
accepted-fields a =
    let es = a.entries in
    (rw (ones-presence es) (present-least es ((have-exactly named es).1 a.required)), rw (ones-presence es) (present-most es))

-- What is said by what is read

-- by the container's number
pub summary-container : (s : List ℕ) (n : ℕ) → (n ≡ accepted → ⊥) → n ≡ container_number s → refused n ≡ summary_of s
unfolding summary_of
summary-container s n h q =
    let e : n ≡ verdict_of s = verdict-container s n h q in
    sym (said-refused n (entries_of (document_of s)) h) ∙ ap (λ (m : ℕ). said m (entries_of (document_of s))) e

-- by the verdict's number
pub summary-number : (s : List ℕ) (n : ℕ) → (n ≡ accepted → ⊥) → n ≡ verdict_of s → refused n ≡ summary_of s
unfolding summary_of
summary-number s n h e =
    sym (said-refused n (entries_of (document_of s)) h) ∙ ap (λ (m : ℕ). said m (entries_of (document_of s))) e

-- by the container's document
pub summary-document : (s : List ℕ) (c : Container s) → container_number s ≡ accepted → said (entries_number c.entries) c.entries ≡ summary_of s
unfolding summary_of
summary-document s c z =
    ap₂ said (verdict-document s (entries_number c.entries) c z refl) (ap entries_of (sym (container-document c)))

-- by what is said of the container's document, where it is not refused
pub summary-judged : (s : List ℕ) (c : Container s) → container_number s ≡ accepted → (r : Result Summary Refusal) → number_of r ≡ entries_number c.entries
    → IfOk r (λ (x : Summary). x ≡ accepted_summary c.entries) → IfOk r (λ (x : Summary). x ≡ summary_of s)
summary-judged s c z (Ok x) e h = h ∙ sym (said-accepted (entries_number c.entries) c.entries (sym e)) ∙ summary-document s c z
summary-judged s c z (Err x) e h = tt

-- by the counts and the set of fields of a document whose counts agree
pub summary-counted : (es : Entries) {c : Counts} {presence : ℕ} → CountsIn (counted_of es) c → CountsAgree (counted_of es) → presence ≡ presence_of es → accepted_with c presence ≡ accepted_summary es
summary-counted es k a p =
    let r = counts-are k (fit_is k ∙ in-range (counted_of es) a.numbers) in
    rw (r.models, r.chains, r.groups, r.atoms, r.bonds, p)

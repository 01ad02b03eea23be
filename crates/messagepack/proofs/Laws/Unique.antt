-- No bytes are writings of two documents, whether they keep the rules or not. The bytes are read back, with no rule tested: a writing of a
-- document, whatever follows it, reads as that document and what follows.
-- Assumes nothing.
use Rattle.std.specs.Prelude.{◌≡◌, ℕ, zero, suc, ◌+◌, ◌≤◌, max, ◌⊎◌, List, [], ◌++◌, length, take, drop, ℤ, slice_index_or, refl}
use Rattle.std.proofs.Common.{sym, ap, ◌∙◌, append_assoc, append-nil, inl, inr, arith, zero-add, take_at, drop_at}
use Rattle.heads.specs.Lead.{more_of}
use Rattle.heads.specs.Head.{HeadOf, kind_at, head_at, some_head}
use Rattle.heads.specs.declared.Kind.{Kind}
use Rattle.heads.proofs.Laws.Span.{starts}
use Rattle.heads.proofs.Laws.Head.{Told, head-told}
use Rattle.numbers.specs.BigEndian.{bytes_of}
use Rattle.messagepack.specs.Document.{Document, Documents, Entries, integer, float, string, binary, array, map, none, item, empty, entry, count, size, signed_value, UnsignedOf, SignedOf, Writes, WritesAll, WritesEntries}
use Rattle.messagepack.specs.Limits.{nesting_limit}
use Rattle.messagepack.specs.Rules.{depth, depth_all, depth_entries}
use Rattle.messagepack.specs.Read.{read, read_all, read_entries, read_kind, read_value, document_in, document_of}

-- a head that is written first is read, and what follows it
record First (k : Kind) (n b : ℕ) (s t : List ℕ) : Type 0 where
  kind : kind_at s 0 ≡ k
  p : ℕ
  head : head_at s 0 ≡ some_head n p
  rest : drop p s ≡ t
  lead : slice_index_or s 0 0 ≡ b

first : {k : Kind} {n : ℕ} {h : List ℕ} (t : List ℕ) (x : HeadOf k n h) → First k n x.lead (h ++ t) t
first {k} {n} {h} t x =
    let g : Told (h ++ t) 0 k n (0 + length h) = head-told (h ++ t) 0 t x refl in
    record {
      kind = g.kind;
      p = 0 + length h;
      head = g.head;
      rest = drop_at h t (0 + length h) (sym (zero-add (length h)));
      lead = (starts (h ++ t) 0 x.lead (bytes_of (more_of x.lead) n ++ t) (ap (λ (v : List ℕ). v ++ t) x.is)).1;
    }

-- a writing that begins with a head, and what follows it
past : (w h v t : List ℕ) → w ≡ h ++ v → w ++ t ≡ h ++ (v ++ t)
past w h v t e = ap (λ (x : List ℕ). x ++ t) e ∙ append_assoc h v t

value-by : (d : ℕ) {k : Kind} {n b : ℕ} {s t : List ℕ} → First k n b s t → read_value (suc d) s ≡ read_kind s (read_all (read_value d)) (read_entries (read_value d)) k n t
unfolding read_value
value-by d f = rw (f.head, f.kind, f.rest)

integer-reads : (v : ℤ) (w : List ℕ) (d : ℕ) (t : List ℕ) → UnsignedOf v w ⊎ SignedOf v w → read_value (suc d) (w ++ t) ≡ read (integer v) t
integer-reads v w d t (inl o) = value-by d (first t o.head) ∙ ap (λ (z : ℤ). read (integer z) t) (sym o.is)
integer-reads v w d t (inr o) =
    let f = first t o.head in
    value-by d f ∙ ap (λ (b : ℕ). read (integer (signed_value (more_of b) o.n)) t) f.lead ∙ ap (λ (z : ℤ). read (integer z) t) (sym o.is)

-- a string or a binary
text-reads : (make : List ℕ → Document) (b t : List ℕ) → read (make (take (length b) (b ++ t))) (drop (length b) (b ++ t)) ≡ read (make b) t
text-reads make b t = rw (take_at b t (length b) refl, drop_at b t (length b) refl)

mutual
  unfolding Writes depth count size read_all read_entries

  reads : (x : Document) (w : List ℕ) (d : ℕ) (t : List ℕ) → Writes x w → depth x ≤ d → read_value (suc d) (w ++ t) ≡ read x t
  reads (integer v) w d t wr dp = integer-reads v w d t wr
  reads (float bits) w d t wr dp = value-by d (first t wr)
  reads (string b) w d t wr dp = ap (read_value (suc d)) (past w wr.h b t wr.is) ∙ value-by d (first (b ++ t) wr.head) ∙ text-reads string b t
  reads (binary b) w d t wr dp = ap (read_value (suc d)) (past w wr.h b t wr.is) ∙ value-by d (first (b ++ t) wr.head) ∙ text-reads binary b t
  reads (array ds) w zero t wr dp = absurd (omega arith)
  reads (array ds) w (suc d) t wr dp =
      ap (read_value (suc (suc d))) (past w wr.h wr.v t wr.is) ∙ value-by (suc d) (first (wr.v ++ t) wr.head) ∙ rw (all-reads ds wr.v d t wr.body (omega arith))
  reads (map es) w zero t wr dp = absurd (omega arith)
  reads (map es) w (suc d) t wr dp =
      ap (read_value (suc (suc d))) (past w wr.h wr.v t wr.is) ∙ value-by (suc d) (first (wr.v ++ t) wr.head) ∙ rw (entries-read es wr.v d t wr.body (omega arith))

  all-reads : (ds : Documents) (w : List ℕ) (d : ℕ) (t : List ℕ) → WritesAll ds w → depth_all ds ≤ d → read_all (read_value (suc d)) (count ds) (w ++ t) ≡ read ds t
  all-reads none w d t wr dp = ap (λ (x : List ℕ). read none (x ++ t)) wr
  all-reads (item x ds) w d t wr dp =
      rw (past w wr.u wr.v t wr.is, reads x wr.u d (wr.v ++ t) wr.first (omega arith), all-reads ds wr.v d t wr.rest (omega arith))

  entries-read : (es : Entries) (w : List ℕ) (d : ℕ) (t : List ℕ) → WritesEntries es w → depth_entries es ≤ d → read_entries (read_value (suc d)) (size es) (w ++ t) ≡ read es t
  entries-read empty w d t wr dp = ap (λ (x : List ℕ). read empty (x ++ t)) wr
  entries-read (entry k x es) w d t wr dp =
      let a : wr.a ++ ((wr.u ++ wr.v) ++ t) ≡ wr.key.h ++ (k ++ ((wr.u ++ wr.v) ++ t)) = past wr.a wr.key.h k ((wr.u ++ wr.v) ++ t) wr.key.is in
      let f = first (k ++ ((wr.u ++ wr.v) ++ t)) wr.key.head in
      rw (past w wr.a (wr.u ++ wr.v) t wr.is, a, f.head, f.rest, take_at k ((wr.u ++ wr.v) ++ t) (length k) refl, drop_at k ((wr.u ++ wr.v) ++ t) (length k) refl, append_assoc wr.u wr.v t, reads x wr.u d (wr.v ++ t) wr.first (omega arith), entries-read es wr.v d t wr.rest (omega arith))

read-inj : {A : Type 0} {a b : A} {p q : List ℕ} → read a p ≡ read b q → (a ≡ b) × (p ≡ q)
read-inj h = (cc, cc)

-- two writings at the beginning of the same bytes are of the same document, and what follows is the same
pub same-document : (x y : Document) (u v p q : List ℕ) → Writes x u → Writes y v → u ++ p ≡ v ++ q → (x ≡ y) × (p ≡ q)
same-document x y u v p q a b e =
    read-inj (sym (reads x u (max (depth x) (depth y)) p a (omega arith)) ∙ ap (read_value (suc (max (depth x) (depth y)))) e ∙ reads y v (max (depth x) (depth y)) q b (omega arith))

-- demand 3: bytes are a writing of at most one document
pub no-two-documents : (x y : Document) (bytes : List ℕ) → Writes x bytes → Writes y bytes → x ≡ y
no-two-documents x y bytes a b = (same-document x y bytes bytes [] [] a b refl).0

-- the document of a file is the one that it is a writing of
pub document_of-is : (x : Document) (bytes : List ℕ) → Writes x bytes → depth x ≤ nesting_limit → document_of bytes ≡ x
unfolding document_of
document_of-is x bytes w d =
    ap document_in (ap (read_value (suc nesting_limit)) (sym (append-nil bytes)) ∙ reads x bytes nesting_limit [] w d)

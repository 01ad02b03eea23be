-- A writing of a document that keeps the rules is accepted, and the walk ends where it ends: by recursion on the document.
-- Assumes nothing.
use Rattle.std.specs.Prelude.{◌≡◌, ℕ, suc, ◌+◌, ◌-◌, ◌≤◌, true, ◌⊎◌, List, [], ◌∷◌, ◌++◌, length, take, drop, ℤ, refl, Ok}
use Rattle.std.proofs.Common.{sym, ap, subst, ◌∙◌, append_assoc, inl, inr, arith, add-zero, add_assoc, length-append, le-leb}
use Rattle.utf8.specs.Utf8.{Utf8}
use Rattle.utf8.specs.Check.{is_utf8}
use Rattle.utf8.specs.Laws.Utf8.{utf8-is_utf8}
use Rattle.heads.specs.Head.{kind_at, head_at, some_head}
use Rattle.heads.specs.declared.Kind.{Kind}
use Rattle.heads.proofs.Laws.Span.{follows, holds, fits}
use Rattle.heads.proofs.Laws.Head.{Told, head-told}
use Rattle.numbers.specs.BigEndian.{bytes_of}
use Rattle.numbers.specs.Ranges.{integer_limit}
use Rattle.heads.specs.Lead.{more_of}
use Rattle.messagepack.specs.Document.{Document, Documents, Entries, integer, float, string, binary, array, map, none, item, empty, entry, count, size, UnsignedOf, SignedOf, TextOf, Writes, WritesAll, WritesEntries}
use Rattle.messagepack.specs.Rules.{depth, depth_all, depth_entries, InRange, Distinct, Keeps, KeepsAll, KeepsEntries}
use Rattle.messagepack.specs.Walk.{body_at, text_at, key_at, many_at, entries_from, value_at, ok_text}
use Rattle.messagepack.proofs.Laws.Walk as w
use Rattle.messagepack.proofs.Laws.Keys.{Fresh, fresh-none, fresh-more}

module _ (s : List ℕ) where
  -- the rest of s at a place, past a first part
  pub past : (at : ℕ) (u v t x : List ℕ) → x ≡ u ++ v → drop at s ≡ x ++ t → drop at s ≡ u ++ (v ++ t)
  past at u v t x e h = h ∙ ap (λ (y : List ℕ). y ++ t) e ∙ append_assoc u v t

  pub ends : (at : ℕ) (u v x : List ℕ) → x ≡ u ++ v → at + length u + length v ≡ at + length x
  ends at u v x e = rw (e, length-append u v) (add_assoc at (length u) (length v))

  -- a string or a binary that stands at a place
  pub record TextAt (k : Kind) (t : List ℕ) (at e p : ℕ) : Type 0 where
    pub kind : kind_at s at ≡ k
    pub head : head_at s at ≡ some_head (length t) p
    pub body : body_at s (length t) p ≡ Ok (p + length t)
    pub text : take (length t) (drop p s) ≡ t
    pub end : p + length t ≡ e

  pub text-there : (k : Kind) (t x r : List ℕ) (at : ℕ) (o : TextOf k t x) → drop at s ≡ x ++ r → TextAt k t at (at + length x) (at + length o.h)
  text-there k t x r at o h =
      let q : drop at s ≡ o.h ++ (t ++ r) = past at o.h t r x o.is h in
      let g : Told s at k (length t) (at + length o.h) = head-told s at (t ++ r) o.head q in
      let f : drop (at + length o.h) s ≡ t ++ r = follows s at o.h (t ++ r) q in
      let l : length o.h ≡ suc (length (bytes_of (more_of o.head.lead) (length t))) = ap length o.head.is in
      let m : length (o.h ++ t) ≡ length o.h + length t = length-append o.h t in
      let le : at + length (o.h ++ t) ≤ length s = fits s at (o.h ++ t) r (omega arith) (q ∙ sym (append_assoc o.h t r)) in
      record {
        kind = g.kind;
        head = g.head;
        body = w.body-in s (length t) (at + length o.h) (omega arith);
        text = holds s (at + length o.h) t r f;
        end = ends at o.h t x o.is;
      }

  -- a string that is UTF-8
  pub string-there : (t : List ℕ) (at e p : ℕ) → TextAt Kind.Str t at e p → Utf8 t → text_at s at ≡ ok_text p (length t)
  string-there t at e p x u =
      let y : is_utf8 (take (length t) (drop p s)) ≡ true = rw x.text (utf8-is_utf8 u) in
      w.text-tested s at true x.head x.body y

  pub key-there : (t : List ℕ) (at e p : ℕ) → TextAt Kind.Str t at e p → Utf8 t → key_at s at ≡ ok_text p (length t)
  key-there t at e p x u = w.key-by s at x.kind ∙ string-there t at e p x u

  integer-of : (v : ℤ) (x : List ℕ) (d at : ℕ) (t : List ℕ) → UnsignedOf v x ⊎ SignedOf v x → InRange v → drop at s ≡ x ++ t → value_at s d at ≡ Ok (at + length x)
  integer-of v x d at t (inl o) k h =
      let g : Told s at Kind.Unsigned o.n (at + length x) = head-told s at t o.head h in
      let le : o.n ≤ integer_limit = subst InRange o.is k in
      rw (w.value-unsigned s d at g.kind, g.head, le-leb o.n integer_limit le)
  integer-of v x d at t (inr o) k h =
      let g : Told s at Kind.Signed o.n (at + length x) = head-told s at t o.head h in
      rw (w.value-signed s d at g.kind, g.head)

  mutual
    unfolding Writes depth Keeps count size Distinct Fresh

    pub value-of : (doc : Document) (x : List ℕ) (d at : ℕ) (t : List ℕ) → Writes doc x → depth doc ≤ d → Keeps doc → drop at s ≡ x ++ t → value_at s d at ≡ Ok (at + length x)
    value-of (integer v) x d at t wr dp ky h = integer-of v x d at t wr ky h
    value-of (float n) x d at t wr dp ky h =
        let g : Told s at Kind.Float n (at + length x) = head-told s at t wr h in
        rw (w.value-float s d at g.kind, g.head)
    value-of (binary b) x d at t wr dp ky h =
        let g : TextAt Kind.Bin b at (at + length x) (at + length wr.h) = text-there Kind.Bin b x t at wr h in
        rw (w.value-bin s d at g.kind, g.head) (g.body ∙ ap Ok g.end)
    value-of (string b) x d at t wr dp ky h =
        let g : TextAt Kind.Str b at (at + length x) (at + length wr.h) = text-there Kind.Str b x t at wr h in
        rw (w.value-str s d at g.kind, string-there b at (at + length x) (at + length wr.h) g ky) (ap Ok g.end)
    value-of (array ds) x d at t wr dp ky h =
        let q : drop at s ≡ wr.h ++ (wr.v ++ t) = past at wr.h wr.v t x wr.is h in
        let g : Told s at Kind.Array (count ds) (at + length wr.h) = head-told s at (wr.v ++ t) wr.head q in
        rw (w.value-array s d at (omega arith) g.kind, g.head)
        (many-of ds wr.v (d - 1) (at + length wr.h) t wr.body (omega arith) ky (follows s at wr.h (wr.v ++ t) q) ∙ ap Ok (ends at wr.h wr.v x wr.is))
    value-of (map es) x d at t wr dp ky h =
        let q : drop at s ≡ wr.h ++ (wr.v ++ t) = past at wr.h wr.v t x wr.is h in
        let g : Told s at Kind.Map (size es) (at + length wr.h) = head-told s at (wr.v ++ t) wr.head q in
        rw (w.value-map s d at (omega arith) g.kind, g.head)
        (w.entries-few s (value_at s (d - 1)) (size es) (at + length wr.h) ky.0
        ∙ entries-of es wr.v (d - 1) [] (at + length wr.h) t wr.body (omega arith) ky.1 ky.2 (fresh-none es) (follows s at wr.h (wr.v ++ t) q)
        ∙ ap Ok (ends at wr.h wr.v x wr.is))

    many-of : (ds : Documents) (x : List ℕ) (d at : ℕ) (t : List ℕ) → WritesAll ds x → depth_all ds ≤ d → KeepsAll ds → drop at s ≡ x ++ t → many_at (value_at s d) (count ds) at ≡ Ok (at + length x)
    many-of none x d at t wr dp ky h = w.many-none (value_at s d) 0 at (omega arith) ∙ rw wr (ap Ok (sym (add-zero at)))
    many-of (item y ds) x d at t wr dp ky h =
        let q : drop at s ≡ wr.u ++ (wr.v ++ t) = past at wr.u wr.v t x wr.is h in
        let one : value_at s d at ≡ Ok (at + length wr.u) = value-of y wr.u d at (wr.v ++ t) wr.first (omega arith) ky.0 q in
        let rest : many_at (value_at s d) (count ds) (at + length wr.u) ≡ Ok (at + length wr.u + length wr.v) = many-of ds wr.v d (at + length wr.u) t wr.rest (omega arith) ky.1 (follows s at wr.u (wr.v ++ t) q) in
        w.many-suc (value_at s d) (count ds) at one ∙ rest ∙ ap Ok (ends at wr.u wr.v x wr.is)

    entries-of : (es : Entries) (x : List ℕ) (d : ℕ) (ks : List (List ℕ)) (at : ℕ) (t : List ℕ) → WritesEntries es x → depth_entries es ≤ d → Distinct es → KeepsEntries es → Fresh ks es → drop at s ≡ x ++ t → entries_from s (value_at s d) (size es) ks at ≡ Ok (at + length x)
    entries-of empty x d ks at t wr dp di ky fr h = w.entries_none s (value_at s d) 0 at ks (omega arith) ∙ rw wr (ap Ok (sym (add-zero at)))
    entries-of (entry k y es) x d ks at t wr dp di ky fr h =
        let q : drop at s ≡ wr.a ++ ((wr.u ++ wr.v) ++ t) = past at wr.a (wr.u ++ wr.v) t x wr.is h in
        let g : TextAt Kind.Str k at (at + length wr.a) (at + length wr.key.h) = text-there Kind.Str k wr.a ((wr.u ++ wr.v) ++ t) at wr.key q in
        let f : drop (at + length wr.a) s ≡ wr.u ++ (wr.v ++ t) = follows s at wr.a ((wr.u ++ wr.v) ++ t) q ∙ append_assoc wr.u wr.v t in
        let one : value_at s d (at + length wr.a) ≡ Ok (at + length wr.a + length wr.u) = value-of y wr.u d (at + length wr.a) (wr.v ++ t) wr.first (omega arith) ky.1 f in
        let rest : entries_from s (value_at s d) (size es) (k ∷ ks) (at + length wr.a + length wr.u) ≡ Ok (at + length wr.a + length wr.u + length wr.v) = entries-of es wr.v d (k ∷ ks) (at + length wr.a + length wr.u) t wr.rest (omega arith) di.1 ky.2 (fresh-more k ks es fr.1 di.0) (follows s (at + length wr.a) wr.u (wr.v ++ t) f) in
        let there : value_at s d (at + length wr.key.h + length k) ≡ Ok (at + length wr.a + length wr.u) = ap (value_at s d) g.end ∙ one in
        w.entries-suc s (value_at s d) (size es) at ks (key-there k at (at + length wr.a) (at + length wr.key.h) g ky.0) (rw g.text fr.0) there
        ∙ rw g.text (rest ∙ ap Ok (ends (at + length wr.a) wr.u wr.v (wr.u ++ wr.v) refl ∙ ends at wr.a (wr.u ++ wr.v) x wr.is))

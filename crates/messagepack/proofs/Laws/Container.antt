-- The container's number is 0 exactly for a container: the walk ends at the end of the file exactly for a writing of a document that keeps
-- the rules. It is at most 11.
-- Assumes nothing.
use Rattle.std.specs.Prelude.{◌≡◌, ℕ, ◌≤◌, Bool, true, false, cond, ◌↔◌, List, [], ◌++◌, length, ◌==◌, nat_le, Result, Ok, Err}
use Rattle.std.proofs.Math.Path.{refl, ap, subst}
use Rattle.std.proofs.Common.{sym, ◌∙◌, append-nil, zero-add, arith, lit<, lit≤}
use Rattle.std.proofs.Math.Seq.{drop-length}
use borrow.Author.Tests.{eqb-true, eq-eqb, leb-true, le-leb}
use Rattle.refusal.specs.Table.{accepted, file_over_limit, bytes_after}
use Rattle.numbers.specs.BigEndian.{Bytes}
use Rattle.numbers.specs.Laws.Tests.{either}
use Rattle.heads.specs.Head.{kind_at, head_at}
use Rattle.heads.specs.declared.Kind.{Kind}
use Rattle.heads.proofs.Laws.Head.{head-told}
use Rattle.messagepack.specs.Limits.{file_limit, nesting_limit}
use Rattle.messagepack.specs.Document.{Entries, map, Writes}
use Rattle.messagepack.specs.Rules.{Container}
use Rattle.messagepack.specs.Walk.{value_at, ended, outer, container_number}
use Rattle.messagepack.proofs.Laws.Walk as w
use Rattle.messagepack.proofs.Laws.Refused.{Sure, refused, value-sure}
use Rattle.messagepack.proofs.Laws.Sound.{MapIn, map-in, value_in}
use Rattle.messagepack.proofs.Laws.Complete.{value-of}

module _ (s : List ℕ) (bytes : Bytes s) where
  -- a number that is 0 says that the walk ended at the end
  ended-zero : (v : Result ℕ ℕ) → value_at s nesting_limit 0 ≡ v → Sure v → ended s v ≡ 0 → value_at s nesting_limit 0 ≡ Ok (length s)
  ended-zero (Err n) q (refused h l) k = absurd (omega arith)
  ended-zero (Ok p) q o k = go (p == length s) refl k
    where
      go : (b : Bool) → (p == length s) ≡ b → cond b accepted bytes_after ≡ 0 → value_at s nesting_limit 0 ≡ Ok (length s)
      go true e k = q ∙ ap Ok (eqb-true p (length s) e)
      go false e k = absurd (omega arith)

  outer-zero : (k : Kind) → kind_at s 0 ≡ k → outer s k ≡ 0 → (kind_at s 0 ≡ Kind.Map) × (value_at s nesting_limit 0 ≡ Ok (length s))
  outer-zero Kind.Map e h = (e, ended-zero (value_at s nesting_limit 0) refl (value-sure s nesting_limit 0) h)
  outer-zero Kind.Missing e h = absurd (omega arith)
  outer-zero Kind.Outside e h = absurd (omega arith)
  outer-zero Kind.Unsigned e h = absurd (omega arith)
  outer-zero Kind.Signed e h = absurd (omega arith)
  outer-zero Kind.Float e h = absurd (omega arith)
  outer-zero Kind.Str e h = absurd (omega arith)
  outer-zero Kind.Bin e h = absurd (omega arith)
  outer-zero Kind.Array e h = absurd (omega arith)

  -- the outer map's head is that of a map
  map_first : (es : Entries) → Writes (map es) s → kind_at s 0 ≡ Kind.Map
  unfolding Writes
  map_first es wr = subst (λ (x : List ℕ). kind_at x 0 ≡ Kind.Map) (sym wr.is) (head-told (wr.h ++ wr.v) 0 wr.v wr.head refl).kind

  container-there : (b : Bool) → nat_le (length s) file_limit ≡ b → cond b (outer s (kind_at s 0)) file_over_limit ≡ 0 → Container s
  container-there false e h = absurd (omega arith)
  container-there true e h =
      let o = outer-zero (kind_at s 0) refl h in
      let q = sym (w.value-map s nesting_limit 0 (lit< tt) o.0) ∙ o.1 in
      let m : MapIn s nesting_limit 0 (length s) = map-in s bytes 11 (value_in s bytes 11) 0 (length s) o.0 (head_at s 0) refl q in
      let all : m.w ≡ s = sym (append-nil m.w) ∙ ap (λ (t : List ℕ). m.w ++ t) (sym (drop-length s)) ∙ sym m.span.is in
      record {
        fits = leb-true (length s) file_limit e;
        entries = m.entries;
        writes = subst (λ (t : List ℕ). Writes (map m.entries) t) all m.writes;
        nested = m.deep;
        keeps = m.keeps;
      }

  -- the number is 0 exactly when the file is a writing of a map that keeps limits and rules
  pub container-exactly : (container_number s ≡ 0) ↔ Container s
  unfolding container_number
  container-exactly = (container-there (nat_le (length s) file_limit) refl, back)
    where
      back : Container s → cond (nat_le (length s) file_limit) (outer s (kind_at s 0)) file_over_limit ≡ 0
      back c =
          let v : value_at s nesting_limit 0 ≡ Ok (length s) = value-of s (map c.entries) s nesting_limit 0 [] c.writes c.nested c.keeps (sym (append-nil s)) ∙ ap Ok (zero-add (length s)) in
          rw (le-leb (length s) file_limit c.fits, map_first c.entries c.writes, v, eq-eqb (length s) (length s) refl)

-- the number is at most 11
pub container-most : (s : List ℕ) → container_number s ≤ bytes_after
unfolding container_number
container-most s = either Most (nat_le (length s) file_limit) (outer-most (kind_at s 0)) (lit≤ tt)
  where
    Most : ℕ → Type 0
    Most n = n ≤ bytes_after

    ended-most : (v : Result ℕ ℕ) → Sure v → ended s v ≤ bytes_after
    ended-most (Ok p) o = either Most (p == length s) (lit≤ tt) (lit≤ tt)
    ended-most (Err n) (refused h l) = l

    outer-most : (k : Kind) → outer s k ≤ bytes_after
    outer-most Kind.Map = ended-most (value_at s nesting_limit 0) (value-sure s nesting_limit 0)
    outer-most Kind.Missing = lit≤ tt
    outer-most Kind.Outside = lit≤ tt
    outer-most Kind.Unsigned = lit≤ tt
    outer-most Kind.Signed = lit≤ tt
    outer-most Kind.Float = lit≤ tt
    outer-most Kind.Str = lit≤ tt
    outer-most Kind.Bin = lit≤ tt
    outer-most Kind.Array = lit≤ tt

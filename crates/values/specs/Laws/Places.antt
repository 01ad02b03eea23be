-- A document that stands at a place, opened: what its head says, and what stands after the head.
-- Assumes nothing.
use Rattle.std.specs.Prelude.{◌≡◌, refl, None, Bool, false, cond, List, [], ◌++◌, ◌⊎◌, ℕ, zero, suc, ◌+◌, ◌-◌, ◌<◌, ◌≤◌, eqb, ℤ, length, take, drop, get_or}
use Rattle.std.proofs.Math.Path.{sym, subst}
use Rattle.std.proofs.Common.{ap, ◌∙◌, append-nil, inl, inr, arith, le-leb, le-ltb, zero-add, lit<, lit≤, length-append}
use Rattle.std.proofs.Math.Bool.{true}
use Rattle.std.proofs.Math.Option.{Option, some, none as nothing}
use Rattle.std.proofs.Math.IntN.{pos}
use Rattle.std.proofs.Math.Seq.{drop-length}
use Rattle.heads.specs.Lead.{kind_of, more_of}
use Rattle.heads.specs.Head.{some_head, HeadOf, kind_at, head_at}
use Rattle.heads.specs.declared.Kind.{Kind}
use Rattle.heads.specs.Span.{Span}
use Rattle.heads.proofs.Laws.Span.{span_none, holds, fits}
use Rattle.heads.proofs.Laws.Head.{same-parts, Told, head-told, kind-in, head-held, head-number}
use Rattle.numbers.specs.BigEndian.{unsigned_at}
use Rattle.heads.proofs.Laws.Table.{more_of-bound, more_of-four, low-lead, string-lead}
use Rattle.numbers.specs.Laws.BigEndian.{length-bytes_of}
use Rattle.numbers.specs.Laws.Tests.{clash}
use Rattle.messagepack.specs.Document.{Document, Documents, Entries, integer, float, string, binary, array, map, none, item, empty, entry, count, size, signed_value, UnsignedOf, SignedOf, TextOf, Writes, WritesAll, WritesEntries}
use Rattle.messagepack.specs.Rules.{Keeps, KeepsAll, KeepsEntries, Distinct, NoKey, InRange, Container}
use Rattle.values.specs.Parts.{integer_of}
use Rattle.values.specs.Places.{At, AtAll, AtEntries, PlaceSays, gone, there, TextAt, ItemsAt, EntriesAt, last_of, half_of, unsigned_by, signed_by}
use Rattle.values.specs.Heads.{is_integer, is_signed, is_float, is_string, is_binary, is_array, is_map, no_part}
use Rattle.values.specs.declared.Part.{Part}
use Rattle.values.specs.Standing.{Standing}
use Rattle.values.specs.Laws.Standing.{span-split, writes-long, standing-one, stands-head}

-- a document at a place is one value that stands there
pub at-standing : {s : List ℕ} {p e : ℕ} {x : Document} → At s p x e → Standing s 1 p e
at-standing {s} {p} {e} {x} a = standing-one s p e x a.w a.writes a.span

-- it takes a byte at least, and ends inside
pub at-inside : {s : List ℕ} {p e : ℕ} {x : Document} → At s p x e → (p < e) × (e ≤ length s)
at-inside {s} {p} {e} {x} a =
    let l = writes-long x a.w a.writes in
    let f : p + length a.w ≤ length s = fits s p a.w (drop e s) l a.span.is in
    (omega (arith, a.span.ends), omega (arith, a.span.ends))

-- a place that is 0 has no document, another has one
pub place_none : {s : List ℕ} {p : ℕ} {o : Option Document} → PlaceSays s p o → p ≡ 0 → o ≡ nothing
place_none gone e = refl
place_none (there l a) e = absurd (omega arith)

pub record Stands (s : List ℕ) (p : ℕ) (o : Option Document) : Type 0 where
  pub x : Document
  pub end : ℕ
  pub is : o ≡ some x
  pub at : At s p x end

pub place-some : {s : List ℕ} {p : ℕ} {o : Option Document} → PlaceSays s p o → (p ≡ 0 → ⊥) → Stands s p o
place-some gone n = absurd (n refl)
place-some (there {e = e} {x = x} l a) n = record { x = x; end = e; is = refl; at = a }

-- a head at a place, and what follows it up to the end
head-split : {s : List ℕ} {p e : ℕ} {k : Kind} {n : ℕ} (w h v : List ℕ) → HeadOf k n h → w ≡ h ++ v → Span s p e w → Told s p k n (p + length h) × Span s (p + length h) e v
head-split {s} {p} {e} w h v hd q sp =
    let two = span-split w h v q sp in
    (head-told s p (drop (p + length h) s) hd two.0.is, two.1)

-- an array's head, and its values
pub record OpenArray (s : List ℕ) (p : ℕ) (ds : Documents) (e : ℕ) : Type 0 where
  pub q : ℕ
  pub told : Told s p Kind.Array (count ds) q
  pub all : AtAll s q ds e

pub open_array : {s : List ℕ} {p e : ℕ} {ds : Documents} → At s p (array ds) e → OpenArray s p ds e
unfolding Writes Keeps
open_array {s} {p} a =
    let wr = a.writes in
    let t = head-split a.w wr.h wr.v wr.head wr.is a.span in
    record { q = p + length wr.h; told = t.0; all = record { w = wr.v; writes = wr.body; span = t.1; keeps = a.keeps } }

-- a map's head, and its entries
pub record OpenMap (s : List ℕ) (p : ℕ) (es : Entries) (e : ℕ) : Type 0 where
  pub q : ℕ
  pub told : Told s p Kind.Map (size es) q
  pub all : AtEntries s q es e

pub open-map : {s : List ℕ} {p e : ℕ} {es : Entries} → At s p (map es) e → OpenMap s p es e
unfolding Writes Keeps
open-map {s} {p} a =
    let wr = a.writes in
    let t = head-split a.w wr.h wr.v wr.head wr.is a.span in
    record { q = p + length wr.h; told = t.0; all = record { w = wr.v; writes = wr.body; span = t.1; keeps = a.keeps.2; distinct = a.keeps.1 } }

-- the head of a string or a binary, and its bytes
pub record OpenText (s : List ℕ) (p : ℕ) (k : Kind) (t : List ℕ) (e : ℕ) : Type 0 where
  pub q : ℕ
  pub told : Told s p k (length t) q
  pub text : take (length t) (drop q s) ≡ t
  pub ends : e ≡ q + length t
  pub inside : q + length t ≤ length s

text-open : {s : List ℕ} {p e : ℕ} {k : Kind} {t w : List ℕ} → TextOf k t w → 0 < length w → Span s p e w → OpenText s p k t e
text-open {s} {p} {e} {k} {t} {w} wr long sp =
    let h = head-split w wr.h t wr.head wr.is sp in
    let f : p + length w ≤ length s = fits s p w (drop e s) long sp.is in
    let l : length w ≡ length wr.h + length t = ap length wr.is ∙ length-append wr.h t in
    record { q = p + length wr.h; told = h.0; text = holds s (p + length wr.h) t (drop e s) h.1.is; ends = h.1.ends; inside = omega arith }

pub open-string : {s : List ℕ} {p e : ℕ} {t : List ℕ} → At s p (string t) e → OpenText s p Kind.Str t e
unfolding Writes
open-string {t = t} a = text-open a.writes (writes-long (string t) a.w a.writes) a.span

pub open-binary : {s : List ℕ} {p e : ℕ} {t : List ℕ} → At s p (binary t) e → OpenText s p Kind.Bin t e
unfolding Writes
open-binary {t = t} a = text-open a.writes (writes-long (binary t) a.w a.writes) a.span

-- a float is its head
pub open-float : {s : List ℕ} {p e bits : ℕ} → At s p (float bits) e → Told s p Kind.Float bits e
unfolding Writes
open-float {s} {p} {e} {bits} a =
    let t = head-split a.w a.w [] a.writes (sym (append-nil a.w)) a.span in
    subst (Told s p Kind.Float bits) (sym a.span.ends) t.0

-- an integer is its head: unsigned, or signed with so many bytes after its lead byte
pub data OpenInteger (s : List ℕ) (p : ℕ) (v : ℤ) (e : ℕ) : Type 0 where
  unsigned : (n : ℕ) → Told s p Kind.Unsigned n e → v ≡ pos n → OpenInteger s p v e
  signed : (k n : ℕ) → Told s p Kind.Signed n e → e ≡ p + suc k → k ≤ 4 → (2 < k → k ≡ 4) → v ≡ signed_value k n → OpenInteger s p v e

pub open-integer : {s : List ℕ} {p e : ℕ} {v : ℤ} → At s p (integer v) e → OpenInteger s p v e
unfolding Writes
open-integer {s} {p} {e} {v} a = go a.writes
  where
    go : UnsignedOf v a.w ⊎ SignedOf v a.w → OpenInteger s p v e
    go (inl o) =
        let t = head-split a.w a.w [] o.head (sym (append-nil a.w)) a.span in
        unsigned o.n (subst (Told s p Kind.Unsigned o.n) (sym a.span.ends) t.0) o.is
    go (inr o) =
        let t = head-split a.w a.w [] o.head (sym (append-nil a.w)) a.span in
        let m : ℕ = more_of o.head.lead in
        let l : length a.w ≡ suc m = ap length o.head.is ∙ ap suc (length-bytes_of m o.n) in
        signed m o.n (subst (Told s p Kind.Signed o.n) (sym a.span.ends) t.0) (a.span.ends ∙ ap (λ (i : ℕ). p + i) l) (more_of-bound o.head.lead) (more_of-four o.head.lead) o.is

-- a signed head's integer by the head's size
pub signed-sized : (k n : ℕ) → k ≤ 4 → (2 < k → k ≡ 4) → signed_value k n ≡ signed_by n (suc k)
signed-sized zero n le f = rw (le-ltb n 0 (omega arith))
signed-sized (suc zero) n le f = refl
signed-sized (suc (suc zero)) n le f = refl
signed-sized (suc (suc (suc zero))) n le f = absurd (omega (arith, f (lit< tt)))
signed-sized (suc (suc (suc (suc zero)))) n le f = refl
signed-sized (suc (suc (suc (suc (suc k))))) n le f = absurd (omega arith)

-- the first of an array's values, and those after it
pub record OpenItem (s : List ℕ) (p : ℕ) (d : Document) (ds : Documents) (e : ℕ) : Type 0 where
  pub q : ℕ
  pub first : At s p d q
  pub rest : AtAll s q ds e

pub open-item : {s : List ℕ} {p e : ℕ} {d : Document} {ds : Documents} → AtAll s p (item d ds) e → OpenItem s p d ds e
unfolding WritesAll Keeps
open-item {s} {p} a =
    let wr = a.writes in
    let two = span-split a.w wr.u wr.v wr.is a.span in
    record {
      q = p + length wr.u;
      first = record { w = wr.u; writes = wr.first; span = two.0; keeps = a.keeps.0 };
      rest = record { w = wr.v; writes = wr.rest; span = two.1; keeps = a.keeps.1 };
    }

-- the first of a map's entries, its key and its value, and those after it
pub record OpenEntry (s : List ℕ) (p : ℕ) (k : List ℕ) (x : Document) (es : Entries) (e : ℕ) : Type 0 where
  pub q : ℕ
  pub r : ℕ
  pub key : At s p (string k) q
  pub value : At s q x r
  pub rest : AtEntries s r es e
  pub fresh : NoKey k es

pub open-entry : {s : List ℕ} {p e : ℕ} {k : List ℕ} {x : Document} {es : Entries} → AtEntries s p (entry k x es) e → OpenEntry s p k x es e
unfolding WritesEntries Writes Keeps Distinct
open-entry {s} {p} a =
    let wr = a.writes in
    let one = span-split a.w wr.a (wr.u ++ wr.v) wr.is a.span in
    let two = span-split (wr.u ++ wr.v) wr.u wr.v refl one.1 in
    record {
      q = p + length wr.a;
      r = p + length wr.a + length wr.u;
      key = record { w = wr.a; writes = wr.key; span = one.0; keeps = a.keeps.0 };
      value = record { w = wr.u; writes = wr.first; span = two.0; keeps = a.keeps.1 };
      rest = record { w = wr.v; writes = wr.rest; span = two.1; keeps = a.keeps.2; distinct = a.distinct.1 };
      fresh = a.distinct.0;
    }

-- the outer map of a container stands at its first byte, and ends with it
pub outer-at : {s : List ℕ} (c : Container s) → At s 0 (map c.entries) (length s)
outer-at {s} c = record {
  w = s;
  writes = c.writes;
  span = record { is = sym (append-nil s) ∙ ap (λ (t : List ℕ). s ++ t) (sym (drop-length s)); ends = sym (zero-add (length s)) };
  keeps = c.keeps;
}

-- whether a kind is that of a document's heads
abbrev pub heads : Document → Kind → Bool
heads (integer v) k = is_integer k
heads (float bits) k = is_float k
heads (string t) k = is_string k
heads (binary t) k = is_binary k
heads (array ds) k = is_array k
heads (map es) k = is_map k

-- the kind that is read where a document stands is one of its heads'
pub at-heads : {s : List ℕ} {p e : ℕ} (x : Document) → At s p x e → heads x (kind_at s p) ≡ true
at-heads {s} {p} {e} (integer v) a = go (open-integer a)
  where
    go : OpenInteger s p v e → is_integer (kind_at s p) ≡ true
    go (unsigned n t q) = ap is_integer t.kind
    go (signed k n t q le f i) = ap is_integer t.kind
at-heads (float bits) a = ap is_float (open-float a).kind
at-heads (string t) a = ap is_string (open-string a).told.kind
at-heads (binary t) a = ap is_binary (open-binary a).told.kind
at-heads (array ds) a = ap is_array (open_array a).told.kind
at-heads (map es) a = ap is_map (open-map a).told.kind

-- and there is a head
pub at_head : {s : List ℕ} {p e : ℕ} {x : Document} → At s p x e → head_at s p ≡ None → ⊥
at_head {s} {p} {e} a = stands-head s p 0 e (at-standing a)

-- a document with heads of another kind has none of a kind's parts
module _ {s : List ℕ} {p e : ℕ} (x : Document) (a : At s p x e) {k : Kind} (q : kind_at s p ≡ k) where
  pub read-heads : heads x k ≡ true
  read-heads = ap (heads x) (sym q) ∙ at-heads x a

  pub no-integer : is_integer k ≡ false → pos 0 ≡ integer_of x
  no-integer f = go x read-heads
    where
      go : (y : Document) → heads y k ≡ true → pos 0 ≡ integer_of y
      go (integer v) h = clash (sym f ∙ h)
      go (float bits) h = refl
      go (string t) h = refl
      go (binary t) h = refl
      go (array ds) h = refl
      go (map es) h = refl

  pub no_text : is_string k ≡ false → is_binary k ≡ false → TextAt s x e no_part
  no_text f g = go x read-heads
    where
      go : (y : Document) → heads y k ≡ true → TextAt s y e no_part
      go (string t) h = clash (sym f ∙ h)
      go (binary t) h = clash (sym g ∙ h)
      go (integer v) h = record { is = refl; ends = tt }
      go (float bits) h = record { is = refl; ends = tt }
      go (array ds) h = record { is = refl; ends = tt }
      go (map es) h = record { is = refl; ends = tt }

  pub no_items : is_array k ≡ false → ItemsAt s x no_part
  unfolding count WritesAll KeepsAll
  no_items f = go x read-heads
    where
      nothing : AtAll s 0 none 0
      nothing = record { w = []; writes = refl; span = span_none s 0; keeps = tt }

      go : (y : Document) → heads y k ≡ true → ItemsAt s y no_part
      go (array ds) h = clash (sym f ∙ h)
      go (string t) h = record { counts = refl; end = 0; all = nothing }
      go (binary t) h = record { counts = refl; end = 0; all = nothing }
      go (integer v) h = record { counts = refl; end = 0; all = nothing }
      go (float bits) h = record { counts = refl; end = 0; all = nothing }
      go (map es) h = record { counts = refl; end = 0; all = nothing }

  pub no-entries : is_map k ≡ false → EntriesAt s x no_part
  unfolding size WritesEntries KeepsEntries Distinct
  no-entries f = go x read-heads
    where
      nothing : AtEntries s 0 empty 0
      nothing = record { w = []; writes = refl; span = span_none s 0; keeps = tt; distinct = tt }

      go : (y : Document) → heads y k ≡ true → EntriesAt s y no_part
      go (map es) h = clash (sym f ∙ h)
      go (string t) h = record { counts = refl; end = 0; all = nothing }
      go (binary t) h = record { counts = refl; end = 0; all = nothing }
      go (integer v) h = record { counts = refl; end = 0; all = nothing }
      go (float bits) h = record { counts = refl; end = 0; all = nothing }
      go (array ds) h = record { counts = refl; end = 0; all = nothing }

-- what is read of a head, by the document that stands there
module _ {s : List ℕ} {p e : ℕ} (x : Document) (a : At s p x e) {n r : ℕ} (h : head_at s p ≡ some_head n r) where
  same_number : {k : Kind} {m q : ℕ} → Told s p k m q → (m ≡ n) × (q ≡ r)
  same_number t = same-parts (sym t.head ∙ h)

  -- an integer by an unsigned head ends with it
  pub read-end : kind_at s p ≡ Kind.Unsigned → r ≡ e
  read-end q = go x a (read-heads x a q)
    where
      go : (y : Document) → At s p y e → heads y Kind.Unsigned ≡ true → r ≡ e
      go (integer v) b f = by (open-integer b)
        where
          by : OpenInteger s p v e → r ≡ e
          by (unsigned m t i) = sym (same_number t).1
          by (signed k m t w le g i) = sym (same_number t).1
      go (float bits) b f = clash f
      go (string t) b f = clash f
      go (binary t) b f = clash f
      go (array ds) b f = clash f
      go (map es) b f = clash f

  pub read-unsigned : kind_at s p ≡ Kind.Unsigned → unsigned_by n ≡ integer_of x
  unfolding Keeps
  read-unsigned q = go x a (read-heads x a q)
    where
      go : (y : Document) → At s p y e → heads y Kind.Unsigned ≡ true → unsigned_by n ≡ integer_of y
      go (integer v) b f = by (open-integer b)
        where
          by : OpenInteger s p v e → unsigned_by n ≡ v
          by (unsigned m t i) =
              let l : n ≤ 2147483647 = subst (λ (j : ℕ). j ≤ 2147483647) (same_number t).0 (subst InRange i b.keeps) in
              rw (le-leb n 2147483647 l) (ap pos (sym (same_number t).0) ∙ sym i)
          by (signed k m t w le g i) = clash (ap is_signed (sym q ∙ t.kind))
      go (float bits) b f = clash f
      go (string t) b f = clash f
      go (binary t) b f = clash f
      go (array ds) b f = clash f
      go (map es) b f = clash f

  pub read-signed : kind_at s p ≡ Kind.Signed → signed_by n (r - p) ≡ integer_of x
  read-signed q = go x a (read-heads x a q)
    where
      go : (y : Document) → At s p y e → heads y Kind.Signed ≡ true → signed_by n (r - p) ≡ integer_of y
      go (integer v) b f = by (open-integer b)
        where
          by : OpenInteger s p v e → signed_by n (r - p) ≡ v
          by (unsigned m t i) = clash (ap is_signed (sym t.kind ∙ q))
          by (signed k m t w le g i) =
              let j : r - p ≡ suc k = omega (arith, (same_number t).1) in
              rw (j, ← (same_number t).0) (sym (i ∙ signed-sized k m le g))
      go (float bits) b f = clash f
      go (string t) b f = clash f
      go (binary t) b f = clash f
      go (array ds) b f = clash f
      go (map es) b f = clash f

-- an integer in its lead byte
pub read_low : {s : List ℕ} {p e : ℕ} (x : Document) → At s p x e → (lt : p < length s) → get_or s p 0 < 0x80 → (pos (get_or s p 0) ≡ integer_of x) × (p + 1 ≡ e)
read_low {s} {p} {e} x a lt small =
    let l = low-lead (get_or s p 0) small in
    let k : kind_at s p ≡ Kind.Unsigned = kind-in s p lt ∙ l.kind in
    let h : head_at s p ≡ some_head (get_or s p 0) (p + 1) = sym (head-held s p {size = 1} (rw l.more) refl (omega arith) (sym l.held)) in
    let u : unsigned_by (get_or s p 0) ≡ integer_of x = read-unsigned x a h k in
    (sym (rw (le-leb (get_or s p 0) 2147483647 (omega arith))) ∙ u, read-end x a h k)

-- an integer of two bytes after its lead byte
pub read-two : {s : List ℕ} {p e : ℕ} (x : Document) → At s p x e → p + 3 ≤ length s → get_or s p 0 ≡ 0xcd → {n : ℕ} → n ≡ unsigned_at 2 s (p + 1) → (unsigned_by n ≡ integer_of x) × (p + 3 ≡ e)
unfolding kind_of more_of
read-two {s} {p} {e} x a le b {n} i =
    let k : kind_at s p ≡ Kind.Unsigned = kind-in s p (omega arith) ∙ ap kind_of b in
    let h : head_at s p ≡ some_head n (p + 3) = sym (head-number s p 1 {size = 3} (rw b) refl le i) in
    (read-unsigned x a h k, read-end x a h k)

-- what stands below half is small, and so is what is left above it
pub half-small : (size : ℕ) → half_of size ≤ 2147483648
half-small size = go (eqb size 1) (eqb size 2) (eqb size 3)
  where
    go : (a b c : Bool) → cond a 0 (cond b 128 (cond c 32768 2147483648)) ≤ 2147483648
    go true b c = lit≤ tt
    go false true c = lit≤ tt
    go false false true = lit≤ tt
    go false false false = lit≤ tt

pub last-small : (size : ℕ) → last_of size ≤ half_of size + 2147483647
last-small size = go (eqb size 1) (eqb size 2) (eqb size 3)
  where
    go : (a b c : Bool) → cond a 31 (cond b 255 (cond c 65535 4294967295)) ≤ cond a 0 (cond b 128 (cond c 32768 2147483648)) + 2147483647
    go true b c = lit≤ tt
    go false true c = lit≤ tt
    go false false true = lit≤ tt
    go false false false = lit≤ tt

-- parts by the document that stands there
module _ {s : List ℕ} {p e : ℕ} (x : Document) (a : At s p x e) {n r : ℕ} (h : head_at s p ≡ some_head n r) where
  body_is : {k : Kind} {t : List ℕ} → OpenText s p k t e → (y : Part) → (r + n ≤ length s → (y.at ≡ r) × (y.count ≡ n)) → (take y.count (drop y.at s) ≡ t) × (e ≡ y.at + y.count)
  body_is {t = t} o y f =
      let g = same-parts (sym o.told.head ∙ h) in
      let i : length t ≡ n = g.0 in
      let j : o.q ≡ r = g.1 in
      let b = f (omega (arith, o.inside)) in
      (rw (b.0, b.1, ← i, ← j) o.text, omega (arith, o.ends, b.0, b.1))

  pub read-text : {k : Kind} → kind_at s p ≡ k → is_integer k ≡ false → is_float k ≡ false → is_array k ≡ false → is_map k ≡ false → (y : Part) → (r + n ≤ length s → (y.at ≡ r) × (y.count ≡ n)) → TextAt s x e y
  read-text {k} q fi ff fa fm y f = go x a (read-heads x a q)
    where
      go : (z : Document) → At s p z e → heads z k ≡ true → TextAt s z e y
      go (string t) b g = let c = body_is (open-string b) y f in record { is = c.0; ends = c.1 }
      go (binary t) b g = let c = body_is (open-binary b) y f in record { is = c.0; ends = c.1 }
      go (integer v) b g = clash (sym fi ∙ g)
      go (float bits) b g = clash (sym ff ∙ g)
      go (array ds) b g = clash (sym fa ∙ g)
      go (map es) b g = clash (sym fm ∙ g)

  pub read-items : kind_at s p ≡ Kind.Array → ItemsAt s x (record { at = r; count = n })
  read-items q = go x a (read-heads x a q)
    where
      go : (z : Document) → At s p z e → heads z Kind.Array ≡ true → ItemsAt s z (record { at = r; count = n })
      go (array ds) b g =
          let o = open_array b in
          let i = same-parts (sym o.told.head ∙ h) in
          let j : o.q ≡ r = i.1 in
          record { counts = i.0; end = e; all = subst (λ (m : ℕ). AtAll s m ds e) j o.all }
      go (string t) b g = clash g
      go (binary t) b g = clash g
      go (integer v) b g = clash g
      go (float bits) b g = clash g
      go (map es) b g = clash g

  pub read-entries : kind_at s p ≡ Kind.Map → EntriesAt s x (record { at = r; count = n })
  read-entries q = go x a (read-heads x a q)
    where
      go : (z : Document) → At s p z e → heads z Kind.Map ≡ true → EntriesAt s z (record { at = r; count = n })
      go (map es) b g =
          let o = open-map b in
          let i = same-parts (sym o.told.head ∙ h) in
          let j : o.q ≡ r = i.1 in
          record { counts = i.0; end = e; all = subst (λ (m : ℕ). AtEntries s m es e) j o.all }
      go (string t) b g = clash g
      go (binary t) b g = clash g
      go (integer v) b g = clash g
      go (float bits) b g = clash g
      go (array ds) b g = clash g

-- a string whose head is its lead byte
pub read_short : {s : List ℕ} {p e : ℕ} (x : Document) → At s p x e → p < length s → 0xa0 ≤ get_or s p 0 → get_or s p 0 < 0xc0 → {n : ℕ} → n ≡ get_or s p 0 - 0xa0 → (y : Part) → (p + 1 + n ≤ length s → (y.at ≡ p + 1) × (y.count ≡ n)) → TextAt s x e y
read_short {s} {p} {e} x a lt low high is y f =
    let l = string-lead (get_or s p 0) low high in
    let k : kind_at s p ≡ Kind.Str = kind-in s p lt ∙ l.kind in
    read-text x a (sym (head-held s p {size = 1} (rw l.more) refl (omega arith) (is ∙ sym l.held))) k refl refl refl refl y f

-- there are at most as many values as bytes
pub all-inside : {s : List ℕ} {p e : ℕ} (ds : Documents) → p ≤ length s → AtAll s p ds e → p + count ds ≤ length s
unfolding count
all-inside none le a = omega arith
all-inside {s} {p} {e} (item d ds) le a =
    let o = open-item a in
    let i = at-inside o.first in
    omega (arith, i.0, all-inside {p = o.q} ds i.1 o.rest)

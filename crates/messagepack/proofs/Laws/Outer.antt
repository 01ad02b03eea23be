-- The outer keys of a file: one entry after another, and what the call answers and leaves.
-- Assumes nothing.
use Rattle.std.specs.Prelude.{◌≡◌, ℕ, zero, suc, ◌+◌, ◌-◌, ◌<◌, ◌≤◌, Bool, true, false, cond, List, [], ◌∷◌, ◌++◌, length, take, drop, ◌==◌, ◌≢◌, nat_le, Result, Ok, Err, Option, None, Some}
use Rattle.std.proofs.Math.Path.{refl, ap}
use Rattle.std.proofs.Common.{sym, subst, ◌∙◌, append_assoc, append-nil, arith, lit<}
use Rattle.std.proofs.Math.Numerals.{sub-one}
use Rattle.std.proofs.Math.Seq.{take-append_seam}
use borrow.Author.Tests.{eqb-true, eqb-false, eq-eqb, ne_eqb, leb-true, le-leb}
use Rattle.refusal.specs.Table.{accepted, cut_short, bytes_after, buffer_too_small}
use Rattle.refusal.specs.Outcome.{answered, answer_number}
use Rattle.refusal.specs.Answer.{leaves}
use Rattle.numbers.specs.BigEndian.{Bytes}
use Rattle.heads.specs.Head.{kind_at, head_at, some_head}
use Rattle.heads.specs.declared.Kind.{Kind}
use Rattle.heads.specs.declared.Head.{Head}
use Rattle.messagepack.specs.Limits.{file_limit, nesting_limit, entry_limit}
use Rattle.heads.proofs.Laws.Span.{follows}
use Rattle.heads.proofs.Laws.Head.{head-told, same-parts}
use Rattle.messagepack.specs.Document.{Document, Entries, empty, entry, size, TextOf, Writes, WritesEntries}
use Rattle.messagepack.specs.Rules.{depth, depth_entries, Keeps, KeepsEntries, Container}
use Rattle.messagepack.specs.Walk.{key_at, value_at, container_number, ok_text}
use Rattle.messagepack.specs.Outer.{outer_levels, entry_end, keys_from, keys_of, keys_answer, keys_leave}
use Rattle.messagepack.proofs.Laws.Walk as w
use Rattle.messagepack.proofs.Laws.Refused.{Sure, refused, value-sure}
use Rattle.messagepack.proofs.Laws.Complete.{past, text-there, key-there, value-of}
use Rattle.messagepack.proofs.Laws.Container.{container-exactly}

module _ (s : List ℕ) (levels : ℕ) where
  pub keys_none : (at : ℕ) → keys_from s levels 0 at ≡ []
  unfolding keys_from
  keys_none at = refl

  pub keys-first : (n at : ℕ) → 0 < n → keys_from s levels n at ≡ at ∷ keys_from s levels (n - 1) (entry_end s levels at)
  unfolding keys_from
  keys-first zero at h = absurd (omega arith)
  keys-first (suc n) at h = rw sub-one

  -- an entry whose key and value end
  pub entry-end : (at : ℕ) {a m e : ℕ} → key_at s at ≡ ok_text a m → value_at s levels (a + m) ≡ Ok e → entry_end s levels at ≡ e
  entry-end at k v = rw (k, v)

  pub keys-next : (n at : ℕ) {a m e : ℕ} → 0 < n → key_at s at ≡ ok_text a m → value_at s levels (a + m) ≡ Ok e → keys_from s levels n at ≡ at ∷ keys_from s levels (n - 1) e
  keys-next n at h k v = keys-first n at h ∙ rw (k, v)

  pub keys-count : (n at : ℕ) → length (keys_from s levels n at) ≡ n
  unfolding keys_from
  keys-count zero at = refl
  keys-count (suc n) at = ap suc (keys-count n (entry_end s levels at))

-- the number of a file that begins with a map, by the walk of that map
module _ (s : List ℕ) (small : length s ≤ file_limit) (kind : kind_at s 0 ≡ Kind.Map) where
  pub map-cut : head_at s 0 ≡ None → container_number s ≡ cut_short
  map-cut h = w.file-by s small kind ∙ rw (w.map-cut s nesting_limit 0 (lit< tt) kind h)

  pub map-refused : {e : ℕ} → value_at s nesting_limit 0 ≡ Err e → (container_number s ≡ e) × (0 < e)
  map-refused {e} v = (w.file-by s small kind ∙ rw v, above (subst Sure v (value-sure s nesting_limit 0)))
    where
      above : Sure (Err e) → 0 < e
      above (refused h l) = h

  pub map-ended : {p : ℕ} → value_at s nesting_limit 0 ≡ Ok p → p ≡ length s → container_number s ≡ accepted
  map-ended {p} v e = w.file-by s small kind ∙ rw (v, eq-eqb p (length s) e)

  pub map-after : {p : ℕ} → value_at s nesting_limit 0 ≡ Ok p → (p ≢ length s) → container_number s ≡ bytes_after
  map-after {p} v e = w.file-by s small kind ∙ rw (v, ne_eqb p (length s) e)

module _ (s : List ℕ) where
  -- a file that is refused
  pub keys-refused : (old : List ℕ) {n : ℕ} → container_number s ≡ n → 0 < n → (Err n ≡ keys_answer s (length old)) × (old ≡ keys_leave s old)
  unfolding keys_answer keys_leave keys_of
  keys-refused old c h =
      let ne : container_number s ≡ accepted → ⊥ = λ z. absurd (omega arith) in
      (rw (ne_eqb _ _ ne) (ap Err (sym c)), rw (ne_eqb _ _ ne, le-leb 0 (length old) (omega arith)))

  module _ {n p : ℕ} (z : container_number s ≡ accepted) (h : head_at s 0 ≡ some_head n p) where
    pub keys-are : keys_of s ≡ keys_from s outer_levels n p
    unfolding keys_of
    keys-are = rw (eq-eqb _ _ z, h)

    pub keys-many : length (keys_of s) ≡ n
    keys-many = ap length keys-are ∙ keys-count s outer_levels n p

    -- a container's answer is that of the places of its outer keys
    pub keys-told : (room : ℕ) → answered n room ≡ keys_answer s room
    unfolding keys_answer
    keys-told room = rw (eq-eqb _ _ z, keys-many)

    pub keys-left : (old : List ℕ) → leaves (keys_from s outer_levels n p) old ≡ keys_leave s old
    unfolding keys_leave
    keys-left old = rw keys-are

-- the outer map of a container has as many entries as its head says, and no more than a map may have
pub outer-few : {s : List ℕ} {n p : ℕ} → Container s → head_at s 0 ≡ some_head n p → n ≤ entry_limit
unfolding Writes Keeps
outer-few {s} {n} c h =
    let t = (head-told s 0 c.writes.v c.writes.head c.writes.is).head in
    let e : n ≡ size c.entries = (same-parts (sym h ∙ t)).0 in
    omega (arith, c.keeps.0)

pub keys-few : (s : List ℕ) → Bytes s → container_number s ≡ accepted → length (keys_of s) ≤ entry_limit
unfolding keys_of
keys-few s bytes z = go (head_at s 0) refl
  where
    go : (h : Option Head) → head_at s 0 ≡ h → length (keys_of s) ≤ entry_limit
    go (Some x) h = rw (keys-many s z h) (outer-few ((container-exactly s bytes).0 z) h)
    go None h = rw (eq-eqb _ _ z, h) (omega arith)

-- where there is room for all keys, the number of the answer is the container's
pub keys-number : (s : List ℕ) (room : ℕ) → (container_number s ≡ accepted → length (keys_of s) ≤ room) → answer_number (keys_answer s room) ≡ container_number s
unfolding keys_answer
keys-number s room few = go (container_number s == accepted) refl
  where
    go : (b : Bool) → (container_number s == accepted) ≡ b → answer_number (cond b (answered (length (keys_of s)) room) (Err (container_number s))) ≡ container_number s
    go true e = let z = eqb-true (container_number s) accepted e in rw (le-leb (length (keys_of s)) room (few z)) (sym z)
    go false e = refl

-- where there is room for as many keys as a map may have, the answer is how many there are, or the container's number

pub keys-counted : (s : List ℕ) {n : ℕ} (room : ℕ) → Ok n ≡ keys_answer s room → (container_number s ≡ accepted) × (n ≡ length (keys_of s)) × (n ≤ room)
unfolding keys_answer
keys-counted s {n} room h = go (container_number s == accepted) (nat_le (length (keys_of s)) room) refl refl h
  where
    go : (b t : Bool) → (container_number s == accepted) ≡ b → nat_le (length (keys_of s)) room ≡ t → Ok n ≡ cond b (cond t (Ok (length (keys_of s))) (Err buffer_too_small)) (Err (container_number s)) → (container_number s ≡ accepted) × (n ≡ length (keys_of s)) × (n ≤ room)
    go true true e l q = let i : n ≡ length (keys_of s) = cc in (eqb-true (container_number s) accepted e, i, omega (arith, leb-true (length (keys_of s)) room l))
    go true false e l q = let z : ◌≡◌ {A = ℕ} 0 1 = cc in absurd (omega arith)
    go false t e l q = let z : ◌≡◌ {A = ℕ} 0 1 = cc in absurd (omega arith)

pub keys-uncounted : (s : List ℕ) {n : ℕ} (room : ℕ) → (container_number s ≡ accepted → length (keys_of s) ≤ room) → Err n ≡ keys_answer s room → (container_number s ≡ n) × (container_number s ≢ accepted)
unfolding keys_answer
keys-uncounted s {n} room few h = go (container_number s == accepted) refl h
  where
    go : (b : Bool) → (container_number s == accepted) ≡ b → Err n ≡ cond b (answered (length (keys_of s)) room) (Err (container_number s)) → (container_number s ≡ n) × (container_number s ≢ accepted)
    go true e q =
        let y = le-leb (length (keys_of s)) room (few (eqb-true _ _ e)) in
        let k : Err n ≡ Ok (length (keys_of s)) = rw y at q in
        let z : ◌≡◌ {A = ℕ} 0 1 = cc in
        absurd (omega arith)
    go false e q = let i : container_number s ≡ n = cc in (i, λ z. eqb-false _ _ e z)

-- the count of an answer is within a buffer of the same length
pub keys-within : (s : List ℕ) (r : Result ℕ ℕ) (room n k : ℕ) → r ≡ keys_answer s room → n ≡ room → r ≡ Ok k → k ≤ n
keys-within s r room n k e q c = omega (arith, (keys-counted s room (sym c ∙ e)).2)

-- the places that were put are those of the outer keys
pub keys-put : (s old : List ℕ) {n : ℕ} → n ≡ length (keys_of s) → n ≤ length old → take n (keys_leave s old) ≡ keys_of s
unfolding keys_leave
keys-put s old {n} e l =
    let h : length (keys_of s) ≤ length old = omega arith in
    rw (e, le-leb (length (keys_of s)) (length old) h) (take-append_seam (keys_of s) (drop (length (keys_of s)) old))

-- The places and the document

-- at each place a key is written, those of the entries in their order
pub data KeysStand (s : List ℕ) : List ℕ → Entries → Type 0 where
  none : KeysStand s [] empty
  stands : {p : ℕ} {ps : List ℕ} {k : List ℕ} {x : Document} {es : Entries} (a r : List ℕ) → TextOf Kind.Str k a → drop p s ≡ a ++ r → KeysStand s ps es → KeysStand s (p ∷ ps) (entry k x es)

keys_from_lem : (s : List ℕ) (es : Entries) (p : ℕ) (x t : List ℕ) → WritesEntries es x → depth_entries es ≤ outer_levels → KeepsEntries es → drop p s ≡ x ++ t → KeysStand s (keys_from s outer_levels (size es) p) es
unfolding keys_from size WritesEntries depth Keeps
keys_from_lem s empty p x t wr n ky h = none
keys_from_lem s (entry k d es) p x t wr n ky h =
    let q : drop p s ≡ wr.a ++ ((wr.u ++ wr.v) ++ t) = past s p wr.a (wr.u ++ wr.v) t x wr.is h in
    let g = text-there s Kind.Str k wr.a ((wr.u ++ wr.v) ++ t) p wr.key q in
    let f : drop (p + length wr.a) s ≡ wr.u ++ (wr.v ++ t) = follows s p wr.a ((wr.u ++ wr.v) ++ t) q ∙ append_assoc wr.u wr.v t in
    let v : value_at s outer_levels (p + length wr.a) ≡ Ok (p + length wr.a + length wr.u) = value-of s d wr.u outer_levels (p + length wr.a) (wr.v ++ t) wr.first (omega arith) ky.1 f in
    let e : entry_end s outer_levels p ≡ p + length wr.a + length wr.u = entry-end s outer_levels p (key-there s k p (p + length wr.a) (p + length wr.key.h) g ky.0) (ap (value_at s outer_levels) g.end ∙ v) in
    let rest = keys_from_lem s es (p + length wr.a + length wr.u) wr.v t wr.rest (omega arith) ky.2 (follows s (p + length wr.a) wr.u (wr.v ++ t) f) in
    stands wr.a ((wr.u ++ wr.v) ++ t) wr.key q (subst (λ (i : ℕ). KeysStand s (keys_from s outer_levels (size es) i) es) (sym e) rest)

-- the places of the outer keys are those of the document's keys
pub keys-stand : (s : List ℕ) → Bytes s → (c : Container s) → KeysStand s (keys_of s) c.entries
unfolding Writes depth Keeps
keys-stand s bytes c =
    let w = c.writes in
    let h = (head-told s 0 w.v w.head w.is).head in
    let z = (container-exactly s bytes).1 c in
    let n = c.nested in
    subst (λ (ps : List ℕ). KeysStand s ps c.entries) (sym (keys-are s z h)) (keys_from_lem s c.entries (0 + length w.h) w.v [] w.body (omega arith) c.keeps.2 (follows s 0 w.h w.v w.is ∙ sym (append-nil w.v)))

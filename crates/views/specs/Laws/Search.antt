-- The search for a name: the first of the entries ahead is shown, or the search goes on with the others.
-- Assumes nothing.
use Rattle.std.specs.Prelude.{Option, None, Err, ◌≡◌, refl, Bool, true, false, cond, List, ◌∷◌, ◌++◌, length, get_or, take, drop}
use Rattle.std.proofs.Common.{sym, ap, ◌∙◌, append_assoc, zero-add, add-one, length-append, drop-cons, eq-eqb, ne_eqb}
use Prim.Native.Nat.{ℕ, zero, suc, ◌+◌, ◌-◌, ◌<◌, ◌≤◌}
use native.Mathlib.Omega.{arith}
use Rattle.refusal.specs.Table.{accepted, no_such_field}
use Rattle.text.specs.Equal.{equal}
use Rattle.heads.specs.Head.{some_head, HeadOf, head_at}
use Rattle.heads.specs.declared.Kind.{Kind}
use Rattle.heads.specs.declared.Head.{Head}
use Rattle.heads.proofs.Laws.Span.{follows, holds, fits}
use Rattle.heads.proofs.Laws.Head.{head-told, same-parts}
use Rattle.messagepack.specs.Limits.{nesting_limit}
use Rattle.messagepack.specs.Document.{Document, Entries, empty, entry, size, TextOf, Writes, WritesEntries}
use Rattle.messagepack.specs.Rules.{depth, depth_entries, Keeps, KeepsEntries, Container}
use Rattle.messagepack.specs.Walk.{ok_text, key_at, value_at, container_number}
use Rattle.messagepack.specs.Outer.{outer_levels, entry_end, keys_from}
use Rattle.messagepack.proofs.Laws.Complete.{text-there, key-there, value-of}
use Rattle.messagepack.proofs.Laws.Outer as o
use Rattle.views.specs.Place.{after_head, after_value, value_place, entry_place, place_of}
use Rattle.views.specs.Shown.{shown_place, Ahead, Keyed}
use Rattle.views.specs.Laws.Shown.{value-shows}

-- the outer map of a container: its head, and its entries after that
pub record Outer (s : List ℕ) (es : Entries) : Type 0 where
  pub h : List ℕ
  pub head : HeadOf Kind.Map (size es) h
  pub there : head_at s 0 ≡ some_head (size es) (length h)
  pub is : s ≡ h ++ drop (length h) s
  pub ahead : Ahead s (size es) (length h)

pub outer-of : {s : List ℕ} (c : Container s) → Outer s c.entries
unfolding Writes depth Keeps
outer-of {s} c =
    let wr = c.writes in
    let l : 0 + length wr.h ≡ length wr.h = zero-add (length wr.h) in
    let d : drop (length wr.h) s ≡ wr.v = ap (λ (k : ℕ). drop k s) (sym l) ∙ follows s 0 wr.h wr.v wr.is in
    let n = c.nested in
    record {
      h = wr.h;
      head = wr.head;
      there = (head-told s 0 wr.v wr.head wr.is).head ∙ ap (some_head (size c.entries)) l;
      is = wr.is ∙ ap (λ (y : List ℕ). wr.h ++ y) (sym d);
      ahead = record { entries = c.entries; writes = rw d wr.body; counts = refl; nested = omega arith; keeps = c.keeps.2 };
    }

-- the next of the entries ahead: its key is read, its value stands after that, and the others follow
pub record Next (s : List ℕ) (left p : ℕ) : Type 0 where
  pub k : List ℕ
  pub a : List ℕ
  pub x : Document
  pub w : List ℕ
  pub v : List ℕ
  pub from : ℕ
  pub text : TextOf Kind.Str k a
  pub writes : Writes x w
  pub is : drop p s ≡ a ++ (w ++ v)
  pub head : head_at s p ≡ some_head (length k) from
  pub key : take (length k) (drop from s) ≡ k
  pub fits : from + length k ≤ length s
  pub start : from + length k ≡ p + length a
  pub value : drop (from + length k) s ≡ w ++ v
  pub key-read : key_at s p ≡ ok_text from (length k)
  pub nested : depth x ≤ outer_levels
  pub keeps : Keeps x
  pub rest : drop (from + length k + length w) s ≡ v
  pub others : Ahead s (left - 1) (from + length k + length w)

entry_next : {s : List ℕ} {left p : ℕ} (es : Entries) → WritesEntries es (drop p s) → size es ≡ left → depth_entries es ≤ outer_levels → KeepsEntries es → 0 < left → Next s left p
unfolding size depth WritesEntries Keeps
entry_next empty wr e n ky pos = absurd (omega arith)
entry_next {s} {left} {p} (entry k x es) wr e n ky pos =
    let t : drop p s ≡ wr.key.h ++ (k ++ (wr.u ++ wr.v)) = wr.is ∙ ap (λ (y : List ℕ). y ++ (wr.u ++ wr.v)) wr.key.is ∙ append_assoc wr.key.h k (wr.u ++ wr.v) in
    let from : ℕ = p + length wr.key.h in
    let f : drop from s ≡ k ++ (wr.u ++ wr.v) = follows s p wr.key.h (k ++ (wr.u ++ wr.v)) t in
    let la : length wr.a ≡ length wr.key.h + length k = ap length wr.key.is ∙ length-append wr.key.h k in
    let long : 0 < length wr.key.h = (let q = ap length wr.key.head.is in omega arith) in
    let inside : p + length wr.a ≤ length s = fits s p wr.a (wr.u ++ wr.v) (omega arith) wr.is in
    let d : drop (from + length k) s ≡ wr.u ++ wr.v = follows s from k (wr.u ++ wr.v) f in
    let r : drop (from + length k + length wr.u) s ≡ wr.v = follows s (from + length k) wr.u wr.v d in
    record {
      k = k;
      a = wr.a;
      x = x;
      w = wr.u;
      v = wr.v;
      from = from;
      text = wr.key;
      writes = wr.first;
      is = wr.is;
      head = (head-told s p (k ++ (wr.u ++ wr.v)) wr.key.head t).head;
      key = holds s from k (wr.u ++ wr.v) f;
      fits = omega arith;
      start = omega arith;
      value = d;
      key-read = key-there s k p (p + length wr.a) from (text-there s Kind.Str k wr.a (wr.u ++ wr.v) p wr.key wr.is) ky.0;
      nested = omega arith;
      keeps = ky.1;
      rest = r;
      others = record { entries = es; writes = rw r wr.rest; counts = omega arith; nested = omega arith; keeps = ky.2 };
    }

pub next_of : {s : List ℕ} {left p : ℕ} → Ahead s left p → 0 < left → Next s left p
next_of l pos = entry_next l.entries l.writes l.counts l.nested l.keeps pos

-- the clauses of the definition

module _ (s name : List ℕ) where
  entry-step : (left p : ℕ) {m a : ℕ} → 0 < left → head_at s p ≡ some_head m a
      → entry_place s name left p ≡ cond (equal (take m (drop a s)) name) (value_place s (a + m)) (after_value (value_at s nesting_limit (a + m)) (λ e. entry_place s name (left - 1) e))
  unfolding entry_place
  entry-step zero p pos h = absurd (omega arith)
  entry-step (suc n) p pos h = let e : suc n - 1 ≡ n = omega arith in rw (h, e)

  -- the last entry ends the search

  pub entry-last : (left p : ℕ) → left ≡ 0 → Err no_such_field ≡ entry_place s name left p
  unfolding entry_place
  entry-last left p h = rw h

  -- in a file that passes as a container the search begins after the outer map's head

  pub place-refused : (container_number s ≡ 0 → ⊥) → Err (container_number s) ≡ place_of s name
  unfolding place_of
  place-refused h = rw (ne_eqb (container_number s) accepted h)

  pub place-container : {h : Option Head} → container_number s ≡ 0 → head_at s 0 ≡ h → place_of s name ≡ after_head h (λ n p. entry_place s name n p)
  unfolding place_of
  place-container z e = rw (eq-eqb (container_number s) accepted z, e)

module _ {s : List ℕ} {left p : ℕ} (n : Next s left p) where
  -- the head that was read is the next key's
  pub next-read : {m a : ℕ} → head_at s p ≡ some_head m a → (m ≡ length n.k) × (a ≡ n.from)
  next-read g = same-parts (sym g ∙ n.head)

  module _ (name : List ℕ) where
    -- what was compared is the key
    pub next-same : (a m : ℕ) {b : Bool} → m ≡ length n.k → a ≡ n.from → equal (take (a + m - a) (drop a s)) name ≡ b → equal n.k name ≡ b
    next-same a m {b} i j h =
        let l : a + m - a ≡ length n.k = omega arith in
        rw n.key at (rw (l, j) at h)

    -- the entry with the key is shown
    pub next-shown : 0 < left → equal n.k name ≡ true → entry_place s name left p ≡ shown_place (n.from + length n.k) n.x n.w
    next-shown pos e = entry-step s name left p pos n.head ∙ rw (n.key, e) (value-shows s (n.from + length n.k) n.x n.w n.v n.writes (omega (arith, n.nested)) n.keeps n.value)

    -- after another key the search goes on behind the value
    pub next-other : 0 < left → equal n.k name ≡ false → entry_place s name left p ≡ entry_place s name (left - 1) (n.from + length n.k + length n.w)
    next-other pos e =
        entry-step s name left p pos n.head
        ∙ rw (n.key, e, value-of s n.x n.w nesting_limit (n.from + length n.k) n.v n.writes (omega (arith, n.nested)) n.keeps n.value)

    -- the entry ends where its value does
    pub next-end : entry_end s outer_levels p ≡ n.from + length n.k + length n.w
    next-end =
        o.entry-end s outer_levels p n.key-read (value-of s n.x n.w outer_levels (n.from + length n.k) n.v n.writes n.nested n.keeps n.value)

-- The search by the places of the outer keys

-- the keys before the row i are others, and the entries from its place on are ahead
pub record Looking (s name places : List ℕ) (i : ℕ) : Type 0 where
  pub p : ℕ
  pub within : i ≤ length places
  pub ahead : Ahead s (length places - i) p
  pub left : drop i places ≡ keys_from s outer_levels (length places - i) p
  pub is : entry_place s name (length places - i) p ≡ place_of s name

module _ {s : List ℕ} (name : List ℕ) {places : List ℕ} where
  pub look-first : Keyed s places → Looking s name places 0
  look-first k =
      let u = outer-of k.container in
      let e : places ≡ keys_from s outer_levels (size k.container.entries) (length u.h) = k.are ∙ o.keys-are s k.passed u.there in
      let l : length places - 0 ≡ size k.container.entries = (let c = ap length e ∙ o.keys-count s outer_levels (size k.container.entries) (length u.h) in omega arith) in
      record {
        p = length u.h;
        within = omega arith;
        ahead = rw l u.ahead;
        left = rw l e;
        is = rw l (sym (place-container s name k.passed u.there));
      }

  module _ {i : ℕ} (g : Looking s name places i) where
    pub look-last : length places ≤ i → Err no_such_field ≡ place_of s name
    look-last h = entry-last s name _ g.p (omega arith) ∙ g.is

    module _ (lt : i < length places) where
      pos : 0 < length places - i
      pos = omega arith

      rows : get_or places i 0 ∷ drop (suc i) places ≡ g.p ∷ keys_from s outer_levels (length places - i - 1) (entry_end s outer_levels g.p)
      rows = sym (drop-cons places i 0 lt) ∙ g.left ∙ o.keys-first s outer_levels (length places - i) g.p pos

      -- the row has the place of the next key
      pub look-row : get_or places i 0 ≡ g.p
      look-row = let e = rows in cc

      pub look-next : Next s (length places - i) g.p
      look-next = next_of g.ahead pos

      -- the head that was read at the row's place is the next key's
      pub look-read : {q m a : ℕ} → q ≡ get_or places i 0 → head_at s q ≡ some_head m a → (m ≡ length look-next.k) × (a ≡ look-next.from)
      look-read e h = next-read look-next (ap (head_at s) (sym look-row ∙ sym e) ∙ h)

      pub look-inside : {q m a : ℕ} → q ≡ get_or places i 0 → head_at s q ≡ some_head m a → a + m ≤ length s
      look-inside e h = let r = look-read e h in omega (arith, look-next.fits)

      pub look-cut : {q : ℕ} → q ≡ get_or places i 0 → head_at s q ≡ None → ⊥
      look-cut e h = let k = sym look-next.head ∙ ap (head_at s) (sym look-row ∙ sym e) ∙ h in let z : ◌≡◌ {A = ℕ} 0 1 = cc in absurd (omega arith)

      -- the next entry is shown
      pub look-found : equal look-next.k name ≡ true → shown_place (look-next.from + length look-next.k) look-next.x look-next.w ≡ place_of s name
      look-found e = sym (next-shown look-next name pos e) ∙ g.is

      -- or the search goes on
      pub look-on : equal look-next.k name ≡ false → Looking s name places (i + 1)
      look-on e =
          let n = look-next in
          let q = rows in
          let c : length places - (i + 1) ≡ length places - i - 1 = omega arith in
          let t : drop (suc i) places ≡ keys_from s outer_levels (length places - i - 1) (entry_end s outer_levels g.p) = cc in
          record {
            p = entry_end s outer_levels g.p;
            within = omega arith;
            ahead = rw (c, next-end n name) n.others;
            left = ap (λ (j : ℕ). drop j places) (add-one i) ∙ t ∙ ap (λ (j : ℕ). keys_from s outer_levels j (entry_end s outer_levels g.p)) (sym c);
            is = rw (c, next-end n name) (sym (next-other n name pos e) ∙ g.is);
          }

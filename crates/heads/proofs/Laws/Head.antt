-- Heads: what is read at a place is a head as it is written, and a head that is written there is read.
-- Assumes nothing.
use Rattle.std.proofs.Math.Path.{◌≡◌, refl, ap, subst}
use Rattle.std.proofs.Common.{sym, ◌∙◌, arith, add-zero, take_at, drop_at}
use Rattle.std.specs.Prelude.{Option, Some, None, Bool, drop}
use Rattle.std.proofs.Math.Bool.{true, false, cond}
use mathlib.Core.List.{List, [], ◌∷◌, ◌++◌}
use Prim.Native.Nat.{ℕ, zero, suc, ◌+◌, ◌-◌, ◌^◌, ◌<◌, ◌≤◌}
use Rattle.std.proofs.Math.Dec.{ltb}
use Rattle.std.proofs.Math.ListN.{length, get_or, take}
use borrow.Author.Tests.{ltb-true, ltb-false, lt-ltb, le-ltb}
use Rattle.numbers.specs.BigEndian.{Bytes, number_of, bytes_of, unsigned_at}
use Rattle.numbers.specs.Laws.BigEndian.{unsigned_at-in, length-bytes_of, number_of-bytes_of, number_of-bound, bytes_of-number_of, part_bytes}
use Rattle.heads.specs.Lead.{kind_of, more_of, held_by}
use Rattle.heads.specs.Head.{Holds, HeadOf, kind_at, head_number, some_head, head_from, head_at}
use Rattle.heads.specs.declared.Kind.{Kind}
use Rattle.heads.specs.declared.Head.{Head}
use Rattle.heads.specs.Span.{Span}
use Rattle.heads.proofs.Laws.Table.{Alone}
use Rattle.heads.proofs.Laws.Span.{part_length_lem, span-join, span-one, span-part, starts, holds, fits}

-- heads that are the same have the same number and the same end
abbrev number_or : Option Head → ℕ
number_or (Some h) = h.number
number_or None = 0

abbrev end_or : Option Head → ℕ
end_or (Some h) = h.end
end_or None = 0

pub same-parts : {n p m q : ℕ} → some_head n p ≡ some_head m q → (n ≡ m) × (p ≡ q)
same-parts e = (ap number_or e, ap end_or e)

module _ (s : List ℕ) (at : ℕ) where
  -- within s, the kind is that of the byte there
  pub kind-in : at < length s → kind_at s at ≡ kind_of (get_or s at 0)
  unfolding kind_at
  kind-in lt = rw (lt-ltb at (length s) lt)

  pub head-cut : {size : ℕ} → size ≡ more_of (get_or s at 0) + 1 → at < length s → length s - at < size → head_at s at ≡ None
  unfolding head_at
  head-cut e lt short = rw (lt-ltb at (length s) lt, lt-ltb (length s - (at + 1)) (more_of (get_or s at 0)) (omega arith))

  head-whole : (y : ℕ) → more_of (get_or s at 0) ≡ y → at + 1 + y ≤ length s → head_at s at ≡ some_head (head_number s (get_or s at 0) y (at + 1)) (at + 1 + y)
  unfolding head_at
  head-whole y e le = rw (lt-ltb at (length s) (omega arith), e, le-ltb (length s - (at + 1)) y (omega arith))

  pub head-held : {size n : ℕ} → size ≡ more_of (get_or s at 0) + 1 → size ≡ 1 → at + size ≤ length s → n ≡ held_by (get_or s at 0) → some_head n (at + size) ≡ head_at s at
  head-held {size} {n} e one le i =
      let j : at + size ≡ at + 1 + 0 = omega arith in
      rw (i, j) (sym (head-whole 0 (omega arith) (omega arith)))

  pub head-number : (y : ℕ) {size n : ℕ} → size ≡ more_of (get_or s at 0) + 1 → size ≡ suc (suc y) → at + size ≤ length s → n ≡ unsigned_at (suc y) s (at + 1) → some_head n (at + size) ≡ head_at s at
  head-number y {size} {n} e more le i =
      let j : at + size ≡ at + 1 + suc y = omega arith in
      let m : n ≡ number_of (take (suc y) (drop (at + 1) s)) = i ∙ unsigned_at-in (suc y) s (at + 1) (omega arith) in
      rw (m, j) (sym (head-whole (suc y) (omega arith) (omega arith)))

  -- a head of a lead byte alone
  pub alone-head : {k : Kind} {n : ℕ} → at < length s → Alone k (get_or s at 0) n → (kind_at s at ≡ k) × (head_at s at ≡ some_head n (at + 1))
  alone-head lt l = (kind-in lt ∙ l.kind, sym (head-held {size = 1} (rw l.more) refl (omega arith) (sym l.held)))

  -- a float: its lead byte, and four bytes after it
  pub float-kind : at < length s → get_or s at 0 ≡ 0xca → kind_at s at ≡ Kind.Float
  unfolding kind_of
  float-kind lt b = kind-in lt ∙ ap kind_of b

  pub float_size : get_or s at 0 ≡ 0xca → 5 ≡ more_of (get_or s at 0) + 1
  unfolding more_of
  float_size b = rw b

  pub float-head : get_or s at 0 ≡ 0xca → at + 5 ≤ length s → head_at s at ≡ some_head (unsigned_at 4 s (at + 1)) (at + 5)
  float-head b le = sym (head-number 3 (float_size b) refl le refl)

  -- a head that is read ends after its place, inside
  pub head-inside : {n p : ℕ} → head_at s at ≡ some_head n p → (at < p) × (p ≤ length s)
  unfolding head_at
  head-inside {n} {p} q = go (ltb at (length s)) refl (ltb (length s - (at + 1)) y) refl q
    where
      y : ℕ
      y = more_of (get_or s at 0)

      go : (t : Bool) → ltb at (length s) ≡ t → (u : Bool) → ltb (length s - (at + 1)) y ≡ u → cond t (cond u None (some_head (head_number s (get_or s at 0) y (at + 1)) (at + 1 + y))) None ≡ some_head n p → (at < p) × (p ≤ length s)
      go true e true f k = let z : ◌≡◌ {A = ℕ} 0 1 = cc in absurd (omega arith)
      go false e u f k = let z : ◌≡◌ {A = ℕ} 0 1 = cc in absurd (omega arith)
      go true e false f k =
          let j : p ≡ at + 1 + y = sym (same-parts k).1 in
          (omega arith, omega (arith, ltb-true at (length s) e, ltb-false (length s - (at + 1)) y f))

  -- a head that is read: where it is inside, and the head that it is
  pub record Found (n p : ℕ) : Type 0 where
    pub inside : at < length s
    pub h : List ℕ
    pub head : HeadOf (kind_of (get_or s at 0)) n h
    pub span : Span s at p h

  module _ (bytes : Bytes s) where
    found : (n p y : ℕ) → at < length s → more_of (get_or s at 0) ≡ y → (t : Bool) → ltb (length s - (at + 1)) y ≡ t → cond t None (some_head (head_number s (get_or s at 0) y (at + 1)) (at + 1 + y)) ≡ some_head n p → Found n p
    unfolding Bytes bytes_of
    found n p y lt ey true e k = let z : ◌≡◌ {A = ℕ} 0 1 = cc in absurd (omega arith)
    found n p zero lt ey false e k =
        let i : n ≡ held_by (get_or s at 0) = sym (same-parts k).0 in
        let j : p ≡ at + 1 = sym (same-parts k).1 ∙ add-zero (at + 1) in
        record {
          inside = lt;
          h = get_or s at 0 ∷ [];
          head = record { lead = get_or s at 0; byte = bytes at lt; kind = refl; holds = rw ey i; is = rw ey };
          span = rw j (span-one s at lt);
        }
    found n p (suc y) lt ey false e k =
        let xs : List ℕ = take (suc y) (drop (at + 1) s) in
        let le : at + 1 + suc y ≤ length s = omega (arith, ltb-false (length s - (at + 1)) (suc y) e) in
        let l : length xs ≡ suc y = part_length_lem s (at + 1) (suc y) le in
        let bs : Bytes xs = part_bytes s (at + 1) (suc y) le bytes in
        let i : n ≡ number_of xs = sym (same-parts k).0 in
        let j : p ≡ at + 1 + suc y = sym (same-parts k).1 in
        let w : bytes_of (suc y) n ≡ xs = ap (bytes_of (suc y)) i ∙ subst (λ (m : ℕ). bytes_of m (number_of xs) ≡ xs) l (bytes_of-number_of xs bs) in
        let u : n < 256 ^ suc y = rw i (subst (λ (m : ℕ). number_of xs < 256 ^ m) l (number_of-bound xs bs)) in
        record {
          inside = lt;
          h = get_or s at 0 ∷ xs;
          head = record { lead = get_or s at 0; byte = bytes at lt; kind = refl; holds = rw ey u; is = rw ey (ap (λ (v : List ℕ). get_or s at 0 ∷ v) (sym w)) };
          span = rw j (span-join (span-one s at lt) (span-part s (at + 1) (suc y) le));
        }

    pub head-found : {n p : ℕ} → head_at s at ≡ some_head n p → Found n p
    unfolding head_at
    head-found {n} {p} q = go (ltb at (length s)) refl q
      where
        go : (t : Bool) → ltb at (length s) ≡ t → cond t (head_from s (get_or s at 0) (more_of (get_or s at 0)) (at + 1)) None ≡ some_head n p → Found n p
        go true e k = found n p (more_of (get_or s at 0)) (ltb-true at (length s) e) refl (ltb (length s - (at + 1)) (more_of (get_or s at 0))) refl k
        go false e k = let z : ◌≡◌ {A = ℕ} 0 1 = cc in absurd (omega arith)

  -- a head that is written there: its kind and its number are read
  pub record Told (k : Kind) (n p : ℕ) : Type 0 where
    pub kind : kind_at s at ≡ k
    pub head : head_at s at ≡ some_head n p

  told : (k : Kind) (n y b : ℕ) (t : List ℕ) → at < length s → get_or s at 0 ≡ b → kind_of b ≡ k → more_of b ≡ y → Holds y b n → drop (at + 1) s ≡ bytes_of y n ++ t → Told k n (at + 1 + y)
  unfolding head_at bytes_of
  told k n zero b t lt eb kb ey hb r = record {
    kind = kind-in lt ∙ rw (eb, kb);
    head = rw (lt-ltb at (length s) lt, eb, ey, le-ltb (length s - (at + 1)) 0 (omega arith), hb);
  }
  told k n (suc y) b t lt eb kb ey hb r =
      let l : length (bytes_of (suc y) n) ≡ suc y = length-bytes_of (suc y) n in
      let le : at + 1 + length (bytes_of (suc y) n) ≤ length s = fits s (at + 1) (bytes_of (suc y) n) t (omega arith) r in
      let v : take (suc y) (drop (at + 1) s) ≡ bytes_of (suc y) n = subst (λ (m : ℕ). take m (drop (at + 1) s) ≡ bytes_of (suc y) n) l (holds s (at + 1) (bytes_of (suc y) n) t r) in
      record {
        kind = kind-in lt ∙ rw (eb, kb);
        head = rw (lt-ltb at (length s) lt, eb, ey, le-ltb (length s - (at + 1)) (suc y) (omega arith)) (ap (λ (m : ℕ). some_head m (at + 1 + suc y)) (ap number_of v ∙ number_of-bytes_of (suc y) n hb));
      }

  pub head-told : {k : Kind} {n : ℕ} {h : List ℕ} (t : List ℕ) → HeadOf k n h → drop at s ≡ h ++ t → Told k n (at + length h)
  unfolding bytes_of
  head-told {k} {n} {h} t w r =
      let g = starts s at w.lead (bytes_of (more_of w.lead) n ++ t) (r ∙ ap (λ (v : List ℕ). v ++ t) w.is) in
      let l : at + length h ≡ at + 1 + more_of w.lead = rw (w.is, length-bytes_of (more_of w.lead) n) (omega arith) in
      rw l (told k n (more_of w.lead) w.lead t g.0 g.1 w.kind refl w.holds g.2)

-- equal lists whose first parts are equally long
pub split : (a b p q : List ℕ) → length a ≡ length b → a ++ p ≡ b ++ q → (a ≡ b) × (p ≡ q)
split a b p q l e =
    (sym (take_at a p (length a) refl) ∙ ap (take (length a)) e ∙ take_at b q (length a) (sym l), sym (drop_at a p (length a) refl) ∙ ap (drop (length a)) e ∙ drop_at b q (length a) (sym l))

-- two heads at the beginning of the same bytes are the same
pub record SameHead (k l : Kind) (n m b c : ℕ) (p q : List ℕ) : Type 0 where
  pub leads : b ≡ c
  pub kinds : k ≡ l
  pub numbers : n ≡ m
  pub rests : p ≡ q

pub same_head : {k l : Kind} {n m : ℕ} {h g : List ℕ} (p q : List ℕ) (x : HeadOf k n h) (y : HeadOf l m g) → h ++ p ≡ g ++ q → SameHead k l n m x.lead y.lead p q
same_head {k} {l} {n} {m} {h} {g} p q x y e =
    let first : x.lead ∷ (bytes_of (more_of x.lead) n ++ p) ≡ y.lead ∷ (bytes_of (more_of y.lead) m ++ q) = sym (ap (λ (v : List ℕ). v ++ p) x.is) ∙ e ∙ ap (λ (v : List ℕ). v ++ q) y.is in
    let b : x.lead ≡ y.lead = cc in
    let i : Told (h ++ p) 0 k n (0 + length h) = head-told (h ++ p) 0 p x refl in
    let j : Told (h ++ p) 0 l m (0 + length g) = head-told (h ++ p) 0 q y e in
    let hi : head_at (h ++ p) 0 ≡ some_head n (0 + length h) = i.head in
    let hj : head_at (h ++ p) 0 ≡ some_head m (0 + length g) = j.head in
    let same = same-parts (sym hi ∙ hj) in
    let a : n ≡ m = same.0 in
    let z : 0 + length h ≡ 0 + length g = same.1 in
    record { leads = b; kinds = sym x.kind ∙ ap kind_of b ∙ y.kind; numbers = a; rests = (split h g p q (omega arith) e).1 }

-- Values that hold no others, and the quick looks at them: an integer in its lead byte, a float, and a short string of bytes below 80.
-- Assumes nothing.
use Rattle.std.specs.Prelude.{◌≡◌, ◌⊎◌, ℕ, zero, suc, ◌+◌, ◌-◌, ◌*◌, ◌/◌, ◌%◌, ◌<◌, ◌≤◌, Bool, true, false, List, [], ◌∷◌, length, take, drop, nat_lt, slice_index, slice_index_or, Result, Ok, Err, Option, Some}
use Rattle.std.proofs.Math.Path.{refl}
use Rattle.std.proofs.Common.{sym, inl, inr, ap, subst, ◌∙◌, arith, le-leb, lt-ltb, ltb-true, ltb-false}
use Rattle.numbers.specs.BigEndian.{unsigned_at}
use Rattle.numbers.specs.Laws.BigEndian.{unsigned_at-loads}
use Rattle.numbers.specs.Ranges.{integer_limit}
use Rattle.utf8.specs.Check.{is_ascii}
use Rattle.utf8.specs.Laws.Check.{is_ascii-is_utf8}
use Rattle.heads.specs.Head.{kind_at, head_at, some_head}
use Rattle.heads.specs.declared.Kind.{Kind}
use Rattle.heads.proofs.Laws.Head.{alone-head, float-kind, float-head}
use Rattle.heads.proofs.Laws.Table.{low-lead, string-lead}
use Rattle.messagepack.specs.Walk.{key_at, integer_at, plain_at, binary_at, string_at, value_at, ok_text}
use Rattle.messagepack.specs.Quick.{leaf_of, leaf_by_kind, leaf_at, QuickSays, ends, ShortSays, found, RunSays, some_text}
use Rattle.messagepack.specs.declared.Leaf.{Leaf}
use Rattle.messagepack.proofs.Laws.Walk as w
use Rattle.messagepack.specs.declared.Text.{Text}

-- leaves
module _ (s : List ℕ) where
  pub leaf-by : (at : ℕ) {k : Kind} → kind_at s at ≡ k → leaf_at s at ≡ leaf_by_kind s at k
  unfolding leaf_at
  leaf-by at e = rw e

  -- a signed integer and a float are their heads alone
  pub leaf-plain : (at : ℕ) {k : Kind} → kind_at s at ≡ k → (k ≡ Kind.Signed) ⊎ (k ≡ Kind.Float) → leaf_at s at ≡ leaf_of (plain_at s at)
  leaf-plain at e (inl o) = leaf-by at (e ∙ o)
  leaf-plain at e (inr o) = leaf-by at (e ∙ o)

  -- what a leaf says of the value, with any levels left
  pub data LeafSays (at : ℕ) : Result Leaf ℕ → Type 0 where
    leaf-end : {p : ℕ} → ((d : ℕ) → value_at s d at ≡ Ok p) → LeafSays at (Ok (Leaf.End p))
    refuses : {e : ℕ} → ((d : ℕ) → value_at s d at ≡ Err e) → LeafSays at (Err e)
    is-array : kind_at s at ≡ Kind.Array → LeafSays at (Ok Leaf.Array)
    is-map : kind_at s at ≡ Kind.Map → LeafSays at (Ok Leaf.Map)

  says-walk : (at : ℕ) (v : Result ℕ ℕ) → ((d : ℕ) → value_at s d at ≡ v) → LeafSays at (leaf_of v)
  says-walk at (Ok p) h = leaf-end h
  says-walk at (Err e) h = refuses h

  pub leaf-says : (at : ℕ) → LeafSays at (leaf_at s at)
  unfolding leaf_at
  leaf-says at = go (kind_at s at) refl
    where
      go : (k : Kind) → kind_at s at ≡ k → LeafSays at (leaf_by_kind s at k)
      go Kind.Missing e = refuses (λ d. w.value-missing s d at e)
      go Kind.Outside e = refuses (λ d. w.value-outside s d at e)
      go Kind.Unsigned e = says-walk at (integer_at s at) (λ d. w.value-unsigned s d at e)
      go Kind.Signed e = says-walk at (plain_at s at) (λ d. w.value-signed s d at e)
      go Kind.Float e = says-walk at (plain_at s at) (λ d. w.value-float s d at e)
      go Kind.Bin e = says-walk at (binary_at s at) (λ d. w.value-bin s d at e)
      go Kind.Str e = says-walk at (string_at s at) (λ d. w.value-str s d at e)
      go Kind.Array e = is-array e
      go Kind.Map e = is-map e

  -- what is said of the value at a place, by the case that is answered
  says : {l : Result Leaf ℕ} (at : ℕ) → leaf_at s at ≡ l → LeafSays at l
  says at e = subst (λ (l : Result Leaf ℕ). LeafSays at l) e (leaf-says at)

  pub leaf-ends : (at d : ℕ) {p : ℕ} → leaf_at s at ≡ Ok (Leaf.End p) → Ok p ≡ value_at s d at
  leaf-ends at d {p} e = go (says at e)
    where
      go : LeafSays at (Ok (Leaf.End p)) → Ok p ≡ value_at s d at
      go (leaf-end h) = sym (h d)

  pub leaf-refuses : (at d : ℕ) {n : ℕ} → leaf_at s at ≡ Err n → Err n ≡ value_at s d at
  leaf-refuses at d {n} e = go (says at e)
    where
      go : LeafSays at (Err n) → Err n ≡ value_at s d at
      go (refuses h) = sym (h d)

-- quick looks

module _ (s : List ℕ) (at : ℕ) (inside : at < length s) where
  -- an integer in its lead byte
  pub low-ends : slice_index_or s at 0 < 0x80 → QuickSays s at (Some (at + 1))
  low-ends h =
      let r = alone-head s at inside (low-lead (slice_index s at) h) in
      ends {p = at + 1} (λ d. w.value-unsigned s d at r.0 ∙ rw (r.1, le-leb (slice_index s at) integer_limit (omega arith)))

  -- a float
  pub float-ends : slice_index_or s at 0 ≡ 0xca → at + 5 ≤ length s → QuickSays s at (Some (at + 5))
  float-ends b le = ends {p = at + 5} (λ d. w.value-float s d at (float-kind s at inside b) ∙ rw (float-head s at b le))

  -- a short string
  pub short-found : (n : ℕ) → 0xa0 ≤ slice_index s at → slice_index s at < 0xc0 → n ≡ slice_index s at - 0xa0 → at + 1 + n ≤ length s → is_ascii (take n (drop (at + 1) s)) ≡ true → ShortSays s at (some_text (at + 1) n)
  short-found n l h e le a =
      let r = alone-head s at inside (string-lead (slice_index s at) l h) in
      let g : head_at s at ≡ some_head n (at + 1) = r.1 ∙ ap (λ (m : ℕ). some_head m (at + 1)) (sym e) in
      found r.0 (w.text-tested s at true g (w.body-in s n (at + 1) le) (is_ascii-is_utf8 (take n (drop (at + 1) s)) a))

  -- a string of no bytes
  pub empty-found : slice_index_or s at 0 ≡ 0xa0 → ShortSays s at (some_text (at + 1) 0)
  unfolding is_ascii
  empty-found e = short-found 0 (omega arith) (omega arith) (omega arith) (omega arith) refl

module _ {s : List ℕ} {at : ℕ} where
  -- a short string's end is the value's
  pub short-ends : {q : Option Text} {p n : ℕ} → ShortSays s at q → q ≡ some_text p n → QuickSays s at (Some (p + n))
  short-ends {p = p} {n = n} x e = go (subst (ShortSays s at) e x)
    where
      go : ShortSays s at (some_text p n) → QuickSays s at (Some (p + n))
      go (found k t) = ends {p = p + n} (λ d. w.value-str s d at k ∙ rw t)

  -- it ends inside the file
  pub short-inside : {q : Option Text} {p n : ℕ} → ShortSays s at q → q ≡ some_text p n → p + n ≤ length s
  short-inside {p = p} {n = n} x e = go (subst (ShortSays s at) e x)
    where
      go : ShortSays s at (some_text p n) → p + n ≤ length s
      go (found k t) = (w.text-is s at t).inside

  -- and it is a key
  pub short-key : {q : Option Text} {p n : ℕ} → ShortSays s at q → q ≡ some_text p n → ok_text p n ≡ key_at s at
  short-key {p = p} {n = n} x e = go (subst (ShortSays s at) e x)
    where
      go : ShortSays s at (some_text p n) → ok_text p n ≡ key_at s at
      go (found k t) = sym (w.key-by s at k ∙ t)

  pub quick-ends : {q : Option ℕ} {p : ℕ} (d : ℕ) → QuickSays s at q → q ≡ Some p → Ok p ≡ value_at s d at
  quick-ends {p = p} d x e = go (subst (QuickSays s at) e x)
    where
      go : QuickSays s at (Some p) → Ok p ≡ value_at s d at
      go (ends f) = sym (f d)

-- a leaf that ends, by its case
pub leaf-quick : (s : List ℕ) (at : ℕ) {p : ℕ} → leaf_at s at ≡ Ok (Leaf.End p) → QuickSays s at (Some p)
leaf-quick s at e = ends (λ d. sym (leaf-ends s at d e))

pub quick-as : {s : List ℕ} {at : ℕ} {q : Option ℕ} {p : ℕ} → QuickSays s at q → q ≡ Some p → QuickSays s at (Some p)
quick-as {s} {at} x e = subst (QuickSays s at) e x

-- one value more is passed
pub run-next : {s : List ℕ} {at n p left : ℕ} {q : Option ℕ} {r : ℕ} → RunSays s at n p left → 0 < left → QuickSays s p q → q ≡ Some r → RunSays s at n r (left - 1)
run-next {s} {at} {n} {p} {left} x pos k e = record {
  fewer = omega (arith, x.fewer);
  same = λ d. x.same d ∙ w.many-end (value_at s d) left p pos (sym (quick-ends d k e));
}

pub run-first : (s : List ℕ) (at n : ℕ) → RunSays s at n at n
run-first s at n = record { fewer = omega arith; same = λ d. refl }

-- bytes below 80, four at a time

four_low : (a b c d w : ℕ) → b < 256 → c < 256 → d < 256 → w ≡ ((a * 256 + b) * 256 + c) * 256 + d → w % 256 < 0x80 → w / 256 % 256 < 0x80 → w / 256 / 256 % 256 < 0x80 → w / 256 / 256 / 256 < 0x80 → (a < 0x80) × (b < 0x80) × (c < 0x80) × (d < 0x80)
four_low a b c d w hb hc hd e p q r t =
    let x : w / 256 ≡ (a * 256 + b) * 256 + c = omega arith in
    let y : w / 256 / 256 ≡ a * 256 + b = omega arith in
    let z : w / 256 / 256 / 256 ≡ a = omega arith in
    (omega arith, omega arith, omega arith, omega arith)

pub word_low : (s : List ℕ) (at w : ℕ) → ((i : ℕ) → slice_index s i < 256) → at + 4 ≤ length s → w ≡ unsigned_at 4 s at → w % 256 < 0x80 → w / 256 % 256 < 0x80 → w / 256 / 256 % 256 < 0x80 → w / 256 / 256 / 256 < 0x80 → (i : ℕ) → i < 4 → slice_index s (at + i) < 0x80
word_low s at w bytes le e p q r t = go
  where
    all : (slice_index s (at + 0) < 0x80) × (slice_index s (at + 1) < 0x80) × (slice_index s (at + 2) < 0x80) × (slice_index s (at + 3) < 0x80)
    all = four_low (slice_index s (at + 0)) (slice_index s (at + 1)) (slice_index s (at + 2)) (slice_index s (at + 3)) w (bytes (at + 1)) (bytes (at + 2)) (bytes (at + 3)) (omega (arith, e, unsigned_at-loads 4 s at le)) p q r t

    go : (i : ℕ) → i < 4 → slice_index s (at + i) < 0x80
    go zero h = all.0
    go (suc zero) h = all.1
    go (suc (suc zero)) h = all.2
    go (suc (suc (suc zero))) h = all.3
    go (suc (suc (suc (suc i)))) h = absurd (omega arith)

-- what holds before a place and of four bytes from another on, which is not after it, holds before their end
pub low-more : (s : List ℕ) (i k : ℕ) → k ≤ i → ((j : ℕ) → j < i → slice_index s j < 0x80) → ((j : ℕ) → j < 4 → slice_index s (k + j) < 0x80) → (j : ℕ) → j < k + 4 → slice_index s j < 0x80
low-more s i k le before word j h = go (nat_lt j i) refl
  where
    go : (t : Bool) → nat_lt j i ≡ t → slice_index s j < 0x80
    go true e = before j (ltb-true j i e)
    go false e =
        let at : k + (j - k) ≡ j = omega (arith, ltb-false j i e) in
        subst (λ (x : ℕ). slice_index s x < 0x80) at (word (j - k) (omega (arith, ltb-false j i e)))

pub low-ascii : (s : List ℕ) → ((j : ℕ) → j < length s → slice_index s j < 0x80) → is_ascii s ≡ true
unfolding is_ascii
low-ascii [] h = refl
low-ascii (b ∷ s) h =
    let first : b < 0x80 = h 0 (omega arith) in
    rw (lt-ltb b 0x80 first) (low-ascii s (λ j l. h (suc j) (omega arith)))

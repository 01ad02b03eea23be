-- Values one after another: each takes a byte at least, and a head is followed by the values inside.
-- Assumes nothing.
use Rattle.std.proofs.Math.Path.{◌≡◌, refl, sym, ap, subst}
use Rattle.std.proofs.Common.{◌∙◌, inl, inr, zero-add, suc-add, add_assoc, leb-true, leb-false, length-append}
use Rattle.std.specs.Prelude.{Bool, true, false, cond, ◌⊎◌, ℕ, zero, suc, ◌+◌, ◌-◌, ◌<◌, ◌≤◌, leb, get_or, drop, Option, Some, None}
use mathlib.Core.List.{List, [], ◌++◌, append_assoc, append-nil}
use native.Mathlib.Omega.{arith}
use Rattle.std.proofs.Math.Nat.{add-zero}
use Rattle.std.proofs.Math.ListN.{length}
use Rattle.numbers.specs.BigEndian.{unsigned_at}
use Rattle.heads.specs.Lead.{kind_of, more_of}
use Rattle.heads.specs.Head.{some_head, HeadOf, kind_at, head_at}
use Rattle.heads.specs.declared.Kind.{Kind}
use Rattle.heads.specs.Span.{Span}
use Rattle.heads.proofs.Laws.Span.{follows, fits}
use Rattle.heads.proofs.Laws.Head.{same-parts, Told, head-told, head-inside, alone-head, float-kind, float_size, float-head, head-cut, head-number, kind-in}
use Rattle.heads.proofs.Laws.Table.{low-lead, string-lead}
use Rattle.messagepack.specs.Document.{Document, Documents, Entries, integer, float, string, binary, array, map, none, item, empty, entry, count, size, UnsignedOf, SignedOf, TextOf, Writes, WritesAll, WritesEntries}
use Rattle.values.specs.Standing.{Standing, step_to, past_over, pairs_over, LowRun, Sized, ItemsOver, over, each, after, Stepped, on, stop}
use Rattle.values.specs.declared.Step.{Step}

-- a head has a byte at least
head-long : {k : Kind} {n : ℕ} {h : List ℕ} → HeadOf k n h → 0 < length h
head-long h = let l = ap length h.is in omega arith

-- the head that a writing begins with, and what follows
pub record Begins (k : Kind) (n : ℕ) (w : List ℕ) : Type 0 where
  pub h : List ℕ
  pub v : List ℕ
  pub head : HeadOf k n h
  pub is : w ≡ h ++ v

begins-long : {k : Kind} {n : ℕ} {w : List ℕ} → Begins k n w → 0 < length w
begins-long b = let l = ap length b.is ∙ length-append b.h b.v in omega (arith, head-long b.head)

alone : {k : Kind} {n : ℕ} {w : List ℕ} → HeadOf k n w → Begins k n w
alone {w = w} h = record { h = w; v = []; head = h; is = sym (append-nil w) }

-- the kind and the number of a document's head
pub data Starts : Document → List ℕ → Type 0 where
  starts : {x : Document} {w : List ℕ} (k : Kind) (n : ℕ) → Begins k n w → Starts x w

pub starts-of : (x : Document) (w : List ℕ) → Writes x w → Starts x w
unfolding Writes
starts-of (integer v) w wr = go wr
  where
    go : UnsignedOf v w ⊎ SignedOf v w → Starts (integer v) w
    go (inl o) = starts Kind.Unsigned o.n (alone o.head)
    go (inr o) = starts Kind.Signed o.n (alone o.head)
starts-of (float bits) w wr = starts Kind.Float bits (alone wr)
starts-of (string t) w wr = starts Kind.Str (length t) (record { h = wr.h; v = t; head = wr.head; is = wr.is })
starts-of (binary t) w wr = starts Kind.Bin (length t) (record { h = wr.h; v = t; head = wr.head; is = wr.is })
starts-of (array ds) w wr = starts Kind.Array (count ds) (record { h = wr.h; v = wr.v; head = wr.head; is = wr.is })
starts-of (map es) w wr = starts Kind.Map (size es) (record { h = wr.h; v = wr.v; head = wr.head; is = wr.is })

pub writes-long : (x : Document) (w : List ℕ) → Writes x w → 0 < length w
writes-long x w wr = go (starts-of x w wr)
  where
    go : Starts x w → 0 < length w
    go (starts k n b) = begins-long b

-- a part that is two parts
pub span-split : {s : List ℕ} {a c : ℕ} (w u v : List ℕ) → w ≡ u ++ v → Span s a c w → Span s a (a + length u) u × Span s (a + length u) c v
span-split {s} {a} {c} w u v e p =
    let first : drop a s ≡ u ++ (v ++ drop c s) = p.is ∙ ap (λ (x : List ℕ). x ++ drop c s) e ∙ append_assoc u v (drop c s) in
    let then : drop (a + length u) s ≡ v ++ drop c s = follows s a u (v ++ drop c s) first in
    let l : length w ≡ length u + length v = ap length e ∙ length-append u v in
    (record { is = first ∙ ap (λ (x : List ℕ). u ++ x) (sym then); ends = refl }, record { is = then; ends = p.ends ∙ ap (λ (k : ℕ). a + k) l ∙ sym (add_assoc a (length u) (length v)) })

-- each value takes a byte at least
pub standing-counts : (s : List ℕ) (n p e : ℕ) → Standing s n p e → p + n ≤ e
unfolding Standing
standing-counts s zero p e st = omega arith
standing-counts s (suc n) p e st = omega (arith, writes-long st.x st.w st.writes, st.span.ends, standing-counts s n st.q e st.rest)

-- and ends inside the file
pub standing-inside : (s : List ℕ) (n p e : ℕ) → Standing s n p e → p ≤ length s → e ≤ length s
unfolding Standing
standing-inside s zero p e st le = omega arith
standing-inside s (suc n) p e st le =
    let f : p + length st.w ≤ length s = fits s p st.w (drop st.q s) (writes-long st.x st.w st.writes) st.span.is in
    standing-inside s n st.q e st.rest (omega (arith, st.span.ends))

pub standing-none : (s : List ℕ) (n p e : ℕ) → n ≤ 0 → Standing s n p e → p ≡ e
unfolding Standing
standing-none s zero p e le st = st
standing-none s (suc n) p e le st = absurd (omega arith)

pub standing-suc : (s : List ℕ) (n p e : ℕ) → 0 < n → Standing s n p e → Standing s (suc (n - 1)) p e
standing-suc s n p e pos st = subst (λ (k : ℕ). Standing s k p e) (omega arith) st

pub standing-swap : (s : List ℕ) (m n p e : ℕ) → Standing s (m + n) p e → Standing s (n + m) p e
standing-swap s m n p e st = subst (λ (k : ℕ). Standing s k p e) (omega arith) st

pub standing-join : (s : List ℕ) (m n p q e : ℕ) → Standing s m p q → Standing s n q e → Standing s (m + n) p e
unfolding Standing
standing-join s zero n p q e a b = subst (λ (m : ℕ). Standing s m p e) (sym (zero-add n)) (subst (λ (i : ℕ). Standing s n i e) (sym a) b)
standing-join s (suc m) n p q e a b =
    subst (λ (k : ℕ). Standing s k p e) (sym (suc-add m n))
    (record { x = a.x; w = a.w; q = a.q; writes = a.writes; span = a.span; rest = standing-join s m n a.q q e a.rest b })

pub standing-one : (s : List ℕ) (p q : ℕ) (x : Document) (w : List ℕ) → Writes x w → Span s p q w → Standing s 1 p q
unfolding Standing
standing-one s p q x w wr sp = record { x = x; w = w; q = q; writes = wr; span = sp; rest = refl }

-- the values of an array, and the keys and values of a map
all-standing : (s : List ℕ) (ds : Documents) (w : List ℕ) (p q : ℕ) → WritesAll ds w → Span s p q w → Standing s (count ds) p q
unfolding WritesAll count Standing
all-standing s none w p q wr sp = sym (sp.ends ∙ ap (λ (x : List ℕ). p + length x) wr ∙ add-zero p)
all-standing s (item x ds) w p q wr sp =
    let two = span-split w wr.u wr.v wr.is sp in
    record { x = x; w = wr.u; q = p + length wr.u; writes = wr.first; span = two.0; rest = all-standing s ds wr.v (p + length wr.u) q wr.rest two.1 }

entries-standing : (s : List ℕ) (es : Entries) (w : List ℕ) (p q : ℕ) → WritesEntries es w → Span s p q w → Standing s (size es + size es) p q
unfolding WritesEntries size Standing Writes
entries-standing s empty w p q wr sp = sym (sp.ends ∙ ap (λ (x : List ℕ). p + length x) wr ∙ add-zero p)
entries-standing s (entry k x es) w p q wr sp =
    let key = span-split w wr.a (wr.u ++ wr.v) wr.is sp in
    let value = span-split (wr.u ++ wr.v) wr.u wr.v refl key.1 in
    let at : ℕ = p + length wr.a in
    let rest : Standing s (size es + size es) (at + length wr.u) q = entries-standing s es wr.v (at + length wr.u) q wr.rest value.1 in
    let two : suc (size es) + suc (size es) ≡ suc (suc (size es + size es)) = omega arith in
    subst (λ (n : ℕ). Standing s n p q) (sym two)
    (record { x = string k; w = wr.a; q = at; writes = wr.key; span = key.0; rest = record { x = x; w = wr.u; q = at + length wr.u; writes = wr.first; span = value.0; rest = rest } })

-- where a step goes on after a head of a kind that holds m and ends at q, and how many values are inside
abbrev pub onward : Kind → ℕ → ℕ → ℕ
onward Kind.Str m q = q + m
onward Kind.Bin m q = q + m
onward Kind.Unsigned m q = q
onward Kind.Signed m q = q
onward Kind.Float m q = q
onward Kind.Array m q = q
onward Kind.Map m q = q
onward Kind.Outside m q = q
onward Kind.Missing m q = q

abbrev pub inside : Kind → ℕ → ℕ
inside Kind.Array m = m
inside Kind.Map m = m + m
inside Kind.Unsigned m = 0
inside Kind.Signed m = 0
inside Kind.Float m = 0
inside Kind.Str m = 0
inside Kind.Bin m = 0
inside Kind.Outside m = 0
inside Kind.Missing m = 0

-- has a value this kind?
abbrev pub valued : Kind → Bool
valued Kind.Unsigned = true
valued Kind.Signed = true
valued Kind.Float = true
valued Kind.Str = true
valued Kind.Bin = true
valued Kind.Array = true
valued Kind.Map = true
valued Kind.Outside = false
valued Kind.Missing = false

-- a value's head at a place, and what follows it up to the value's end
pub record Opened (s : List ℕ) (p q : ℕ) : Type 0 where
  pub k : Kind
  pub m : ℕ
  pub r : ℕ
  pub of : valued k ≡ true
  pub told : Told s p k m r
  pub body : Standing s (inside k m) (onward k m r) q

module _ (s : List ℕ) (p q : ℕ) where
  told_at : {k : Kind} {m : ℕ} (h v w : List ℕ) → HeadOf k m h → w ≡ h ++ v → Span s p q w → Told s p k m (p + length h) × Span s (p + length h) q v
  told_at h v w hd e sp =
      let two = span-split w h v e sp in
      (head-told s p (drop (p + length h) s) hd two.0.is, two.1)

  -- nothing follows
  ended : {r : ℕ} {v : List ℕ} → v ≡ [] → Span s r q v → Standing s 0 r q
  unfolding Standing
  ended {r} e sp = sym (sp.ends ∙ ap (λ (x : List ℕ). r + length x) e ∙ add-zero r)

  lone : (k : Kind) {m : ℕ} (w : List ℕ) → valued k ≡ true → inside k m ≡ 0 → onward k m (p + length w) ≡ p + length w → HeadOf k m w → Span s p q w → Opened s p q
  lone k {m} w o i f hd sp =
      let t = told_at w [] w hd (sym (append-nil w)) sp in
      record { k = k; m = m; r = p + length w; of = o; told = t.0; body = rw (i, f) (ended refl t.1) }

  text : (k : Kind) (t w : List ℕ) → valued k ≡ true → inside k (length t) ≡ 0 → ((r : ℕ) → onward k (length t) r ≡ r + length t) → TextOf k t w → Span s p q w → Opened s p q
  unfolding Standing
  text k t w o i f wr sp =
      let u = told_at wr.h t w wr.head wr.is sp in
      record { k = k; m = length t; r = p + length wr.h; of = o; told = u.0; body = rw (i, f) (sym u.1.ends) }

  pub opened : (x : Document) (w : List ℕ) → Writes x w → Span s p q w → Opened s p q
  unfolding Writes
  opened (integer v) w wr sp = go wr
    where
      go : UnsignedOf v w ⊎ SignedOf v w → Opened s p q
      go (inl o) = lone Kind.Unsigned w refl refl refl o.head sp
      go (inr o) = lone Kind.Signed w refl refl refl o.head sp
  opened (float bits) w wr sp = lone Kind.Float w refl refl refl wr sp
  opened (string t) w wr sp = text Kind.Str t w refl refl (λ r. refl) wr sp
  opened (binary t) w wr sp = text Kind.Bin t w refl refl (λ r. refl) wr sp
  opened (array ds) w wr sp =
      let u = told_at wr.h wr.v w wr.head wr.is sp in
      record { k = Kind.Array; m = count ds; r = p + length wr.h; of = refl; told = u.0; body = all-standing s ds wr.v (p + length wr.h) q wr.body u.1 }
  opened (map es) w wr sp =
      let u = told_at wr.h wr.v w wr.head wr.is sp in
      record { k = Kind.Map; m = size es; r = p + length wr.h; of = refl; told = u.0; body = entries-standing s es wr.v (p + length wr.h) q wr.body u.1 }

-- a step over the first of some values, by the head that is read there
module _ (s : List ℕ) (p : ℕ) where
  pub stands-head : (n e : ℕ) → Standing s (suc n) p e → head_at s p ≡ None → ⊥
  unfolding Standing
  stands-head n e st h =
      let o = opened s p st.q st.x st.w st.writes st.span in
      let g : head_at s p ≡ some_head o.m o.r = o.told.head in
      let z : ◌≡◌ {A = ℕ} 0 1 = cc in
      omega arith

  pub stands-kind : (n e : ℕ) {k : Kind} → Standing s (suc n) p e → kind_at s p ≡ k → valued k ≡ true
  unfolding Standing
  stands-kind n e st h = let o = opened s p st.q st.x st.w st.writes st.span in subst (λ (j : Kind). valued j ≡ true) (sym o.told.kind ∙ h) o.of

  pub stands-step : (n e : ℕ) {k : Kind} {m r : ℕ} → Standing s (suc n) p e → head_at s p ≡ some_head m r → kind_at s p ≡ k → Standing s (inside k m + n) (onward k m r) e
  unfolding Standing
  stands-step n e {k} {m} {r} st g h =
      let o = opened s p st.q st.x st.w st.writes st.span in
      let t : head_at s p ≡ some_head o.m o.r = o.told.head in
      let i : o.k ≡ k = sym o.told.kind ∙ h in
      let u = same-parts (sym t ∙ g) in
      let j : o.m ≡ m = u.0 in
      let l : o.r ≡ r = u.1 in
      let b : Standing s (inside k m) (onward k m r) st.q = rw (i, j, l) at o.body in
      standing-join s (inside k m) n (onward k m r) st.q e b st.rest

-- steps

module _ (s : List ℕ) (p : ℕ) where
  pub steps-cut-head : head_at s p ≡ None → Stepped s p None
  steps-cut-head g = stop (λ n e st. stands-head s p n e st g)

  pub steps-no-value : {k : Kind} → kind_at s p ≡ k → valued k ≡ false → Stepped s p None
  steps-no-value h f = stop (λ n e st. let t = stands-kind s p n e st h in let z : ◌≡◌ {A = ℕ} 0 1 = cc in omega arith)

  module _ {k : Kind} {m r : ℕ} (g : head_at s p ≡ some_head m r) (h : kind_at s p ≡ k) where
    pub steps_on : onward k m r ≤ length s → Stepped s p (Some (step_to (onward k m r) (inside k m)))
    steps_on le = let after : p < onward k m r = omega (arith, onward-more k, head-inside s p g) in on after le (λ n e st. stands-step s p n e st g h)
      where
        onward-more : (j : Kind) → r ≤ onward j m r
        onward-more Kind.Str = omega arith
        onward-more Kind.Bin = omega arith
        onward-more Kind.Unsigned = omega arith
        onward-more Kind.Signed = omega arith
        onward-more Kind.Float = omega arith
        onward-more Kind.Array = omega arith
        onward-more Kind.Map = omega arith
        onward-more Kind.Outside = omega arith
        onward-more Kind.Missing = omega arith

    pub steps-cut : length s < onward k m r + inside k m → Stepped s p None
    steps-cut lt = stop (λ n e st. omega (arith, standing-counts s (inside k m + n) (onward k m r) e (stands-step s p n e st g h), standing-inside s (suc n) p e st (omega (arith, head-inside s p g))))

    pub steps-past : {o : Option Step} → onward k m r ≡ r + m → inside k m ≡ 0 → o ≡ past_over (length s) m r → Stepped s p o
    steps-past i j q = subst (Stepped s p) (sym q) (go (leb (r + m) (length s)) refl)
      where
        go : (b : Bool) → leb (r + m) (length s) ≡ b → Stepped s p (cond b (Some (step_to (r + m) 0)) None)
        go true b = rw (i, j) at (steps_on (rw i (leb-true (r + m) (length s) b)))
        go false b = steps-cut (omega (arith, leb-false (r + m) (length s) b))

    pub steps-pairs : {o : Option Step} → onward k m r ≡ r → inside k m ≡ m + m → o ≡ pairs_over (length s) m r → Stepped s p o
    steps-pairs i j q = subst (Stepped s p) (sym q) (go (leb (r + (m + m)) (length s)) refl)
      where
        go : (b : Bool) → leb (r + (m + m)) (length s) ≡ b → Stepped s p (cond b (Some (step_to r (m + m))) None)
        go true b = rw (i, j) at (steps_on (rw i (head-inside s p g).1))
        go false b = steps-cut (omega (arith, leb-false (r + (m + m)) (length s) b))

  -- a step by its case
  pub stepped-stop : {o : Option Step} → Stepped s p o → o ≡ None → (n e : ℕ) → Standing s (suc n) p e → ⊥
  stepped-stop x q = go (subst (Stepped s p) q x)
    where
      go : Stepped s p None → (n e : ℕ) → Standing s (suc n) p e → ⊥
      go (stop f) = f

  pub record Went (q k : ℕ) : Type 0 where
    pub after : p < q
    pub inside : q ≤ length s
    pub goes : (n e : ℕ) → Standing s (suc n) p e → Standing s (k + n) q e

  pub stepped-on : {o : Option Step} {q k : ℕ} → Stepped s p o → o ≡ Some (step_to q k) → Went q k
  stepped-on {q = q} {k = k} x i = go (subst (Stepped s p) i x)
    where
      go : Stepped s p (Some (step_to q k)) → Went q k
      go (on a b f) = record { after = a; inside = b; goes = f }

-- a writing at a place is one value that stands there
stands : (s : List ℕ) (at : ℕ) (x : Document) (w v : List ℕ) → Writes x w → drop at s ≡ w ++ v → Span s at (at + length w) w
stands s at x w v wr d = record { is = d ∙ ap (λ (y : List ℕ). w ++ y) (sym (follows s at w v d)); ends = refl }

pub stands_one : (s : List ℕ) (at : ℕ) (x : Document) (w v : List ℕ) → Writes x w → drop at s ≡ w ++ v → Standing s 1 at (at + length w)
stands_one s at x w v wr d = standing-one s at (at + length w) x w wr (stands s at x w v wr d)

-- steps over values whose head is their lead byte

module _ (s : List ℕ) (p : ℕ) (lt : p < length s) where
  pub steps_low : get_or s p 0 < 0x80 → Stepped s p (Some (step_to (p + 1) 0))
  steps_low h = let a = alone-head s p lt (low-lead (get_or s p 0) h) in steps_on s p a.1 a.0 (omega arith)

  pub steps-short : {o : Option Step} {n : ℕ} → 0xa0 ≤ get_or s p 0 → get_or s p 0 < 0xc0 → n ≡ get_or s p 0 - 0xa0 → o ≡ past_over (length s) n (p + 1) → Stepped s p o
  steps-short l h e q = let a = alone-head s p lt (string-lead (get_or s p 0) l h) in steps-past s p a.1 a.0 refl refl (q ∙ ap (λ (m : ℕ). past_over (length s) m (p + 1)) e)

-- a float

pub steps-float : (s : List ℕ) (p : ℕ) → p < length s → {o : Option Step} → get_or s p 0 ≡ 0xca → o ≡ past_over (length s) 4 (p + 1) → Stepped s p o
steps-float s p lt b q = subst (Stepped s p) (sym q) (go (leb (p + 1 + 4) (length s)) refl)
  where
    go : (t : Bool) → leb (p + 1 + 4) (length s) ≡ t → Stepped s p (cond t (Some (step_to (p + 1 + 4) 0)) None)
    go true e =
        let l = leb-true (p + 1 + 4) (length s) e in
        let f : p + 5 ≡ p + 1 + 4 = omega arith in
        subst (λ (r : ℕ). Stepped s p (Some (step_to r 0))) f (steps_on s p (float-head s p b (omega arith)) (float-kind s p lt b) (omega arith))
    go false e = steps-cut-head s p (head-cut s p (float_size s p b) lt (omega (arith, leb-false (p + 1 + 4) (length s) e)))

-- integers by their lead byte and its size

pub sized-one : Sized 0xcc 2
unfolding kind_of more_of
sized-one = record { kind = refl; is = refl; more = omega arith }

pub sized-two : Sized 0xcd 3
unfolding kind_of more_of
sized-two = record { kind = refl; is = refl; more = omega arith }

pub sized-four : Sized 0xce 5
unfolding kind_of more_of
sized-four = record { kind = refl; is = refl; more = omega arith }

pub steps-sized : (s : List ℕ) (p : ℕ) {lead size : ℕ} → Sized lead size → get_or s p 0 ≡ lead → p + size ≤ length s → Stepped s p (Some (step_to (p + size) 0))
steps-sized s p {lead} {size} z b le =
    let i : size ≡ more_of (get_or s p 0) + 1 = z.is ∙ ap (λ (m : ℕ). more_of m + 1) (sym b) in
    let j : size ≡ suc (suc (size - 2)) = omega (arith, z.more) in
    let g : head_at s p ≡ some_head (unsigned_at (suc (size - 2)) s (p + 1)) (p + size) = sym (head-number s p (size - 2) i j le refl) in
    steps_on s p g (kind-in s p (omega (arith, z.more)) ∙ ap kind_of b ∙ z.kind) le

-- one of the values that are left is passed
pub run-again : (s : List ℕ) (n left p q size : ℕ) → 0 < left → Stepped s q (Some (step_to (q + size) 0)) → ((m e : ℕ) → Standing s (n + m) p e → Standing s (left + m) q e) → (m e : ℕ) → Standing s (n + m) p e → Standing s (left - 1 + m) (q + size) e
run-again s n left p q size pos t f m e st =
    let one : Standing s (suc (left - 1 + m)) q e = subst (λ (k : ℕ). Standing s k q e) (omega arith) (f m e st) in
    subst (λ (k : ℕ). Standing s k (q + size) e) (zero-add (left - 1 + m)) ((stepped-on s q t refl).goes (left - 1 + m) e one)

-- an array, by its values or at once

pub low_first : {s : List ℕ} {r m : ℕ} → LowRun s r (suc m) → (r < length s) × (get_or s r 0 < 0x80)
low_first {s} {r} l = (omega (arith, l.inside), subst (λ (q : ℕ). get_or s q 0 < 0x80) (add-zero r) (l.low 0 (omega arith)))

pub low-rest : {s : List ℕ} {r m : ℕ} → LowRun s r (suc m) → LowRun s (r + 1) m
low-rest {s} l = record { inside = omega (arith, l.inside); low = λ i h. subst (λ (q : ℕ). get_or s q 0 < 0x80) (omega arith) (l.low (suc i) (omega arith)) }

low-standing : (s : List ℕ) (m n r e : ℕ) → LowRun s r m → Standing s (m + n) r e → Standing s (0 + n) (r + m) e
low-standing s zero n r e l st = subst (λ (q : ℕ). Standing s (0 + n) q e) (sym (add-zero r)) st
low-standing s (suc m) n r e l st =
    let first : Standing s (suc (m + n)) r e = subst (λ (k : ℕ). Standing s k r e) (suc-add m n) st in
    let b = low_first l in
    let w = stepped-on s r (steps_low s r b.0 b.1) refl in
    let rest : Standing s (m + n) (r + 1) e = subst (λ (k : ℕ). Standing s k (r + 1) e) (zero-add (m + n)) (w.goes (m + n) e first) in
    subst (λ (q : ℕ). Standing s (0 + n) q e) (omega arith) (low-standing s m n (r + 1) e (low-rest l) rest)

pub steps-items : (s : List ℕ) (p : ℕ) {m r : ℕ} → head_at s p ≡ some_head m r → kind_at s p ≡ Kind.Array → {o : Option Step} → ItemsOver s m r o → Stepped s p o
steps-items s p g h each = steps_on s p g h (head-inside s p g).1
steps-items s p {m} {r} g h (over l) = let after : p < r + m = omega (arith, head-inside s p g) in on after l.inside (λ n e st. low-standing s m n r e l (stands-step s p n e st g h))
steps-items s p {m} {r} g h (after {q = q} a b f) = let first : p < q = omega (arith, (head-inside s p g).0) in on first b (λ n e st. f n e (stands-step s p n e st g h))

-- Integers one after another: what is left of an array decides with what is gathered.
-- Assumes nothing.
use Rattle.std.specs.Prelude.{◌≡◌, refl, Some, None, unwrap_or, Bool, true, false, cond, ◌&&◌, List, [], ◌∷◌, leb, ltb, ℤ, pos, negsuc, nat_abs, length, get_or}
use Rattle.std.proofs.Math.Path.{sym, ap, subst}
use Rattle.std.proofs.Common.{ap₂, ◌∙◌, arith, le-leb, lt-ltb, le-ltb, leb-false, ltb-true, ltb-false, lit≤, add-zero}
use Rattle.std.proofs.Math.Option.{Option, some, none as nothing}
use Prim.Native.Nat.{ℕ, zero, suc, ◌+◌, ◌-◌, ◌≤◌, ◌<◌}
use Rattle.std.proofs.lemmas.Bool.{lt-leb}
use Rattle.std.specs.Int.Signed.{le_z, lt_z}
use Rattle.numbers.specs.Ranges.{integer_limit, all_pass, between, all_between, below, all_below, last_index}
use Rattle.messagepack.specs.Document.{Document, Documents, integer, float, string, binary, array, map, none, item, count}
use Rattle.messagepack.specs.Rules.{Keeps, KeepsAll, InRange}
use Rattle.values.specs.Parts.{integer_of, items_of, items_in}
use Rattle.values.specs.Places.{At, AtAll}
use Rattle.values.specs.Laws.Places.{open-item, at-inside, all-inside, read_low}
use Rattle.values.specs.Standing.{LowRun}
use Rattle.values.specs.Laws.Standing.{low_first, low-rest}
use Rattle.values.specs.Integers.{integers_of, none_negative, sum, summed, array_length}

-- an array has no more values than the file has bytes
pub all-few : {s : List ℕ} {p e : ℕ} (ds : Documents) → AtAll s p ds e → count ds ≤ length s
unfolding count
all-few none a = omega arith
all-few (item d ds) a =
    let o = open-item a in
    let i = at-inside o.first in
    omega (arith, i.0, all-inside ds i.1 o.rest)

pub length-integers : (ds : Documents) → length (integers_of ds) ≡ count ds
unfolding integers_of count
length-integers none = refl
length-integers (item d ds) = ap suc (length-integers ds)

-- the first of the values that are left, where there is one
pub record Next (s : List ℕ) (p : ℕ) (ds : Documents) (e : ℕ) : Type 0 where
  pub d : Document
  pub rest : Documents
  pub is : ds ≡ item d rest
  pub q : ℕ
  pub first : At s p d q
  pub all : AtAll s q rest e

pub next_of : {s : List ℕ} {p e left : ℕ} (ds : Documents) → AtAll s p ds e → count ds ≡ left → 0 < left → Next s p ds e
unfolding count
next_of none a c l = absurd (omega arith)
next_of (item d ds) a c l = let o = open-item a in record { d = d; rest = ds; is = refl; q = o.q; first = o.first; all = o.rest }

-- what is left of values ds, with a sum gathered
pub record Summing (s : List ℕ) (ds : Documents) (p left total e : ℕ) : Type 0 where
  pub rest : Documents
  pub all : AtAll s p rest e
  pub counts : count rest ≡ left
  pub negative : none_negative (integers_of ds) ≡ none_negative (integers_of rest)
  pub sums : sum (integers_of ds) ≡ total + sum (integers_of rest)

pub summing_start : {s : List ℕ} {ds : Documents} {p n e : ℕ} → AtAll s p ds e → count ds ≡ n → Summing s ds p n 0 e
summing_start {ds = ds} a c = record { rest = ds; all = a; counts = c; negative = refl; sums = omega arith }

nonneg : (v : ℤ) → lt_z v (pos 0) ≡ false → le_z (pos 0) v ≡ true
nonneg (pos n) h = le-leb 0 n (omega arith)
nonneg (negsuc n) h = sym h

isneg : (v : ℤ) → lt_z v (pos 0) ≡ true → le_z (pos 0) v ≡ false
isneg (pos n) h = let l : n < 0 = ltb-true n 0 h in absurd (omega arith)
isneg (negsuc n) h = refl

pub summing-more : {s : List ℕ} {ds : Documents} {p left total e q : ℕ} (v : ℤ) (m : ℕ) → Summing s ds p left total e → 0 < left → lt_z v (pos 0) ≡ false → m ≡ nat_abs v → ((x : Document) (f : ℕ) → At s p x f → (v ≡ integer_of x) × (q ≡ f)) → Summing s ds q (left - 1) (total + m) e
unfolding integers_of count sum all_pass
summing-more {s} {ds} {p} {left} {total} {e} {q} v m k l h i f =
    let n = next_of k.rest k.all k.counts l in
    let g = f n.d n.q n.first in
    let c : suc (count n.rest) ≡ left = sym (ap count n.is) ∙ k.counts in
    let u : integers_of k.rest ≡ v ∷ integers_of n.rest = ap integers_of n.is ∙ ap (λ (z : ℤ). z ∷ integers_of n.rest) (sym g.0) in
    let w : sum (integers_of k.rest) ≡ nat_abs v + sum (integers_of n.rest) = ap sum u in
    record {
      rest = n.rest;
      all = subst (λ (j : ℕ). AtAll s j n.rest e) (sym g.1) n.all;
      counts = omega arith;
      negative = k.negative ∙ ap none_negative u ∙ ap (λ (b : Bool). b && none_negative (integers_of n.rest)) (nonneg v h);
      sums = omega (arith, k.sums);
    }

pub summing-negative : {s : List ℕ} {ds : Documents} {p left total e : ℕ} (v : ℤ) → Summing s ds p left total e → 0 < left → lt_z v (pos 0) ≡ true → ((x : Document) (f : ℕ) → At s p x f → v ≡ integer_of x) → None ≡ summed (integers_of ds)
unfolding integers_of all_pass
summing-negative {s} {ds} v k l h f =
    let n = next_of k.rest k.all k.counts l in
    let u : integers_of k.rest ≡ v ∷ integers_of n.rest = ap integers_of n.is ∙ ap (λ (z : ℤ). z ∷ integers_of n.rest) (sym (f n.d n.q n.first)) in
    let e : none_negative (integers_of ds) ≡ false = k.negative ∙ ap none_negative u ∙ ap (λ (b : Bool). b && none_negative (integers_of n.rest)) (isneg v h) in
    rw e

pub summing-end : {s : List ℕ} {ds : Documents} {p left total e : ℕ} → Summing s ds p left total e → left ≤ 0 → Some total ≡ summed (integers_of ds)
unfolding integers_of count sum all_pass
summing-end {s} {ds} {p} {left} {total} {e} k l = go k.rest k.counts k.negative k.sums
  where
    go : (r : Documents) → count r ≡ left → none_negative (integers_of ds) ≡ none_negative (integers_of r) → sum (integers_of ds) ≡ total + sum (integers_of r) → Some total ≡ summed (integers_of ds)
    go none c n q = let z : sum (integers_of ds) ≡ total = omega arith in rw (n, z)
    go (item d r) c n q = absurd (omega arith)

-- what is left of values ds that are judged one by one
pub record Judging (s : List ℕ) (ds : Documents) (test : ℤ → Bool) (p left e : ℕ) : Type 0 where
  pub rest : Documents
  pub all : AtAll s p rest e
  pub counts : count rest ≡ left
  pub same : all_pass test (integers_of ds) ≡ all_pass test (integers_of rest)

pub judging-start : {s : List ℕ} {ds : Documents} {test : ℤ → Bool} {p n e : ℕ} → AtAll s p ds e → count ds ≡ n → Judging s ds test p n e
judging-start {ds = ds} a c = record { rest = ds; all = a; counts = c; same = refl }

module _ {s : List ℕ} {ds : Documents} {test : ℤ → Bool} {p left e : ℕ} (v : ℤ) (k : Judging s ds test p left e) (l : 0 < left) where
  pub judging-more : {q : ℕ} → test v ≡ true → ((x : Document) (f : ℕ) → At s p x f → (v ≡ integer_of x) × (q ≡ f)) → Judging s ds test q (left - 1) e
  unfolding integers_of count all_pass
  judging-more t f =
      let n = next_of k.rest k.all k.counts l in
      let g = f n.d n.q n.first in
      let c : suc (count n.rest) ≡ left = sym (ap count n.is) ∙ k.counts in
      let u : integers_of k.rest ≡ v ∷ integers_of n.rest = ap integers_of n.is ∙ ap (λ (z : ℤ). z ∷ integers_of n.rest) (sym g.0) in
      record {
        rest = n.rest;
        all = subst (λ (j : ℕ). AtAll s j n.rest e) (sym g.1) n.all;
        counts = omega arith;
        same = k.same ∙ ap (all_pass test) u ∙ ap (λ (b : Bool). b && all_pass test (integers_of n.rest)) t;
      }

  pub judging-out : test v ≡ false → ((x : Document) (f : ℕ) → At s p x f → v ≡ integer_of x) → false ≡ all_pass test (integers_of ds)
  unfolding integers_of all_pass
  judging-out t f =
      let n = next_of k.rest k.all k.counts l in
      let u : integers_of k.rest ≡ v ∷ integers_of n.rest = ap integers_of n.is ∙ ap (λ (z : ℤ). z ∷ integers_of n.rest) (sym (f n.d n.q n.first)) in
      sym (k.same ∙ ap (all_pass test) u ∙ ap (λ (b : Bool). b && all_pass test (integers_of n.rest)) t)

pub judging-end : {s : List ℕ} {ds : Documents} {test : ℤ → Bool} {p left e : ℕ} → Judging s ds test p left e → left ≤ 0 → true ≡ all_pass test (integers_of ds)
unfolding integers_of count all_pass
judging-end {s} {ds} {test} {p} {left} k l = go k.rest k.counts k.same
  where
    go : (r : Documents) → count r ≡ left → all_pass test (integers_of ds) ≡ all_pass test (integers_of r) → true ≡ all_pass test (integers_of ds)
    go none c q = sym q
    go (item d r) c q = absurd (omega arith)

-- integers in their lead bytes, all at once

low-judging : {s : List ℕ} {ds : Documents} {test : ℤ → Bool} {e : ℕ} (n p : ℕ) → LowRun s p n → ((i : ℕ) → i < n → test (pos (get_or s (p + i) 0)) ≡ true) → Judging s ds test p n e → Judging s ds test (p + n) 0 e
low-judging {s} {ds} {test} {e} zero p l pass k = subst (λ (q : ℕ). Judging s ds test q 0 e) (sym (add-zero p)) k
low-judging {s} {ds} {test} {e} (suc n) p l pass k =
    let b = low_first l in
    let here : test (pos (get_or s p 0)) ≡ true = subst (λ (q : ℕ). test (pos (get_or s q 0)) ≡ true) (add-zero p) (pass 0 (omega arith)) in
    let m : Judging s ds test (p + 1) (suc n - 1) e = judging-more (pos (get_or s p 0)) k (omega arith) here (λ x f a. read_low x a b.0 b.1) in
    let o : Judging s ds test (p + 1) n e = subst (λ (j : ℕ). Judging s ds test (p + 1) j e) (omega arith) m in
    let others : (i : ℕ) → i < n → test (pos (get_or s (p + 1 + i) 0)) ≡ true = λ i h. subst (λ (q : ℕ). test (pos (get_or s q 0)) ≡ true) (omega arith) (pass (suc i) (omega arith)) in
    subst (λ (q : ℕ). Judging s ds test q 0 e) (omega arith) (low-judging n (p + 1) (low-rest l) others o)

pub low-pass : {s : List ℕ} {ds : Documents} {p n e : ℕ} (test : ℤ → Bool) → AtAll s p ds e → count ds ≡ n → LowRun s p n → ((i : ℕ) → i < n → test (pos (get_or s (p + i) 0)) ≡ true) → true ≡ all_pass test (integers_of ds)
low-pass {p = p} {n = n} test a c l pass = judging-end (low-judging n p l pass (judging-start a c)) (omega arith)

-- the integers of a document that keeps the rules are in range
in-range : (x : Document) → Keeps x → InRange (integer_of x)
unfolding Keeps
in-range (integer v) k = k
in-range (float bits) k = lit≤ tt
in-range (string t) k = lit≤ tt
in-range (binary t) k = lit≤ tt
in-range (array ds) k = lit≤ tt
in-range (map es) k = lit≤ tt

pub items_keep : (x : Document) → Keeps x → KeepsAll (items_of x)
unfolding Keeps
items_keep (array ds) k = k
items_keep (integer v) k = tt
items_keep (float bits) k = tt
items_keep (string t) k = tt
items_keep (binary t) k = tt
items_keep (map es) k = tt

-- indices by the last of them, where the table is short or the number is in range
below-between : (n : ℕ) (x : ℤ) → (suc integer_limit < n → InRange x) → below n x ≡ between (pos 0) (last_index n) x
below-between zero (pos i) r = le-ltb i 0 (omega arith) ∙ sym (ap (λ (b : Bool). b && false) (le-leb 0 i (omega arith)))
below-between zero (negsuc i) r = refl
below-between (suc n) (pos i) r = sym (ap (λ (b : Bool). b && leb i (cond (leb n integer_limit) n integer_limit)) (le-leb 0 i (omega arith)) ∙ go (leb n integer_limit) refl)
  where
    same : (b : Bool) → ltb i (suc n) ≡ b → leb i n ≡ ltb i (suc n)
    same true e = le-leb i n (omega (arith, ltb-true i (suc n) e)) ∙ sym e
    same false e = lt-leb i n (omega (arith, ltb-false i (suc n) e)) ∙ sym e

    go : (b : Bool) → leb n integer_limit ≡ b → leb i (cond b n integer_limit) ≡ ltb i (suc n)
    go true e = same (ltb i (suc n)) refl
    go false e =
        let l : integer_limit < n = leb-false n integer_limit e in
        let s : i ≤ integer_limit = r (omega arith) in
        le-leb i integer_limit s ∙ sym (lt-ltb i (suc n) (omega arith))
below-between (suc n) (negsuc i) r = refl

pub all-below : (n : ℕ) (ds : Documents) → KeepsAll ds → all_below n (integers_of ds) ≡ all_between (pos 0) (last_index n) (integers_of ds)
unfolding all_pass integers_of Keeps
all-below n none k = refl
all-below n (item d ds) k = ap₂ ◌&&◌ (below-between n (integer_of d) (λ l. in-range d k.0)) (all-below n ds k.1)

pub few-below : (n : ℕ) (xs : List ℤ) → n ≤ integer_limit → all_below n xs ≡ all_between (pos 0) (last_index n) xs
unfolding all_pass
few-below n [] l = refl
few-below n (x ∷ xs) l = ap₂ ◌&&◌ (below-between n x (λ m. absurd (omega arith))) (few-below n xs l)

pub none_below : (n : ℕ) → all_below n [] ≡ true
unfolding all_pass
none_below n = refl

pub length-count : (o : Option Document) → unwrap_or (array_length o) 0 ≡ count (items_in o)
unfolding count
length-count (some x) = refl
length-count nothing = refl

-- Laws of passing the cells of a column, one part after the other. Assumes nothing.
use Rattle.std.specs.Prelude.{◌≡◌, ℕ, ◌+◌, ◌-◌, ◌*◌, ◌/◌, ◌<◌, ◌≤◌, Bool, true, false, cond, ◌&&◌, List, [], ◌∷◌, ◌++◌, length, drop, replicate, ℤ, pos, FitsSigned, ◌==◌, ◌≢◌, nat_eq, nat_le}
use Rattle.std.proofs.Math.Path.{refl, sym, ap, ap₂}
use Rattle.std.proofs.Common.{subst, ◌∙◌, length-append, to_z, of_z, to_z-of_z}
use Rattle.std.specs.Prelude.{Option as Answer, Some, None}
use Rattle.std.proofs.Math.Option.{Option, none, some, map}
use native.Mathlib.Omega.{arith}
use Rattle.std.proofs.lemmas.List.{length-replicate}
use Rattle.std.specs.Int.{w32}
use borrow.Author.Tests.{leb-true, eq-eqb, ne_eqb, eqb-true, eqb-false}
use Rattle.refusal.specs.Table.{length_differs}
use Rattle.refusal.specs.First.{unless}
use Rattle.numbers.specs.BigEndian.{signed_at}
use Rattle.numbers.specs.Ranges.{all_pass, all_below}
use Rattle.numbers.specs.Laws.Ranges.{all_pass-on, all_pass-off}
use Rattle.steps.specs.declared.Size.{Size}
use Rattle.steps.specs.declared.Form.{Form}
use Rattle.steps.specs.declared.Form.TheVariants.{Plain, Names}
use Rattle.steps.specs.Width.{width_of, size_of}
use Rattle.steps.specs.Numbers.{numbers_in}
use Rattle.steps.specs.Delta.{plus_delta, sums_if, results_from, last_from}
use Rattle.steps.proofs.Laws.Numbers.{numbers-step, numbers-end, length-numbers}
use Rattle.steps.specs.Payload.{read_in, held_in}
use Rattle.steps.proofs.Laws.Names.{names-length}
use Rattle.steps.proofs.Laws.PayloadBack.{held_in-read}
use Rattle.steps.proofs.Laws.Delta.{results-plain, results-append, length-results, results-first}
use Rattle.columns.specs.declared.Kind.{Kind}
use Rattle.columns.specs.Table.{elements, is_names}
use Rattle.columns.specs.Decode.{Decoding, refused, column, judged_values}
use Rattle.payloads.specs.Scan.{refusal_of}
use Rattle.payloads.specs.Laws.Scan.{held-read, elements-one}
use Rattle.decoding.specs.Laws.Names.{names-read}
use Rattle.file_columns.specs.declared.whole.Sums.{Sums}
use Rattle.file_columns.specs.declared.whole.Tally.{Tally}
use Rattle.file_columns.specs.Cells.{cells_pass, total, holds, sums_over, sums_of}
use Rattle.file_columns.specs.Passing.{held_pass, held_sums, to_come, sums_in, Hold, Sound, Adds}
use Rattle.file_columns.specs.Laws.Cells.{total-append}

-- a number whose bits are 0 is 0
pub of_zero : (v : ℤ) → FitsSigned w32 v → of_z w32 v ≡ 0 → v ≡ pos 0
of_zero v f e = sym (to_z-of_z {w = w32} f) ∙ ap (to_z w32) e

-- A column by its payload

pub pass-judged : (test : ℤ → Bool) (c m : ℕ) (k : Kind) (d : Bool) (o : Option (List ℤ)) → cells_pass test (judged_values c m k d o) ≡ held_pass test c d o
pass-judged test c m k d none = refl
pass-judged test c m k d (some l) = by (length l == c)
  where
    by : (t : Bool) → cells_pass test (cond t (column k m (sums_if d l)) (refused length_differs)) ≡ (t && all_pass test (sums_if d l))
    by true = refl
    by false = refl

pub sums-judged : (n : ℕ) (atoms bonds : List ℕ) (c m : ℕ) (k : Kind) (d : Bool) (o : Option (List ℤ)) → holds n atoms bonds ≡ true → sums_of n atoms bonds (judged_values c m k d o) ≡ held_sums n atoms bonds c d o
sums-judged n atoms bonds c m k d none h = refl
sums-judged n atoms bonds c m k d (some l) h = by (length l == c)
  where
    by : (t : Bool) → sums_of n atoms bonds (cond t (column k m (sums_if d l)) (refused length_differs)) ≡ cond t (sums_over n atoms bonds (sums_if d l)) None
    by true = rw h
    by false = refl

-- tables that are too short have no sums
pub sums-short : (n : ℕ) (atoms bonds : List ℕ) (x : Decoding) → holds n atoms bonds ≡ false → sums_of n atoms bonds x ≡ None
sums-short n atoms bonds (refused r) h = refl
sums-short n atoms bonds (column k m xs) h = rw h

-- tables that have n entries each, by the test
pub hold-true : (n : ℕ) (atoms bonds : List ℕ) → holds n atoms bonds ≡ true → Hold n atoms bonds
hold-true n atoms bonds e = by (nat_le n (length atoms)) (nat_le n (length bonds)) refl refl e
  where
    by : (s t : Bool) → nat_le n (length atoms) ≡ s → nat_le n (length bonds) ≡ t → (s && t) ≡ true → Hold n atoms bonds
    by true true p q r = (leb-true n (length atoms) p, leb-true n (length bonds) q)
    by true false p q r = let z : ◌≡◌ {A = ℕ} 0 1 = cc in absurd (omega arith)
    by false t p q r = let z : ◌≡◌ {A = ℕ} 0 1 = cc in absurd (omega arith)

-- what is read of a form other than names is what is held
pub pass-as : (test : ℤ → Bool) (f g : Form) (m n : ℕ) (d : Bool) (s : List ℕ) (r : Bool) → is_names f ≡ false → g ≡ f → r ≡ held_pass test n d (read_in f s)
    → r ≡ held_pass test (elements g n m) d (held_in g m s)
pass-as test f g m n d s r h q e =
    e ∙ ap (held_pass test n d) (sym (held-read f m s h)) ∙ ap (λ (c : ℕ). held_pass test c d (held_in f m s)) (sym (elements-one f n m h))
    ∙ ap (λ (x : Form). held_pass test (elements x n m) d (held_in x m s)) (sym q)

-- a payload that is refused passes no test
pub refused-pass : (test : ℤ → Bool) (c : ℕ) (d : Bool) (o : Option (List ℤ)) (r : ℕ) → r ≡ refusal_of c o → (r ≢ 0) → false ≡ held_pass test c d o
refused-pass test c d none r e h = refl
refused-pass test c d (some l) r e h = by (length l == c) e
  where
    by : (t : Bool) → r ≡ unless t length_differs → false ≡ (t && all_pass test (sums_if d l))
    by true q = absurd (h q)
    by false q = refl

-- names that are not refused are read, a value for each byte
pub names-pass : (test : ℤ → Bool) (n m : ℕ) (d : Bool) (s : List ℕ) → 0 ≡ refusal_of (elements Names n m) (held_in Names m s) → (r : Bool) → r ≡ held_pass test (length s) d (read_in Names s)
    → r ≡ held_pass test (elements Names n m) d (held_in Names m s)
names-pass test n m d s e r q = by (held_in Names m s) refl e
  where
    tested : (l : List ℤ) (t : Bool) → (length l == n * m) ≡ t → 0 ≡ unless t length_differs → length l ≡ n * m
    tested l true a z = eqb-true (length l) (n * m) a
    tested l false a z = absurd (omega arith)

    by : (o : Option (List ℤ)) → held_in Names m s ≡ o → 0 ≡ refusal_of (n * m) o → r ≡ held_pass test (n * m) d o
    by none h z = absurd (omega arith)
    by (some l) h z =
        let k = tested l (length l == n * m) refl z in
        let g = held_in-read Names m s l h in
        let i : length s ≡ n * m = sym (ap length (names-read s l g) ∙ names-length s) ∙ k in
        q ∙ ap (λ (c : ℕ). held_pass test c d (read_in Names s)) i ∙ ap (held_pass test (n * m) d) g

-- A test of all results

-- whether c values are left, and all their results after x pass a test
abbrev pub rest_pass : (ℤ → Bool) → ℕ → Bool → ℤ → Option (List ℤ) → Bool
rest_pass test c d x none = false
rest_pass test c d x (some r) = length r == c && all_pass test (results_from d x r)

pub rest_all : (test : ℤ → Bool) (c : ℕ) (d : Bool) (o : Option (List ℤ)) → held_pass test c d o ≡ rest_pass test c d (pos 0) o
rest_all test c d none = refl
rest_all test c d (some l) = refl

and-false : (b : Bool) → (b && false) ≡ false
and-false true = refl
and-false false = refl

-- a count with k more, or without
count-more : (k n c : ℕ) → k ≤ c → (k + n == c) ≡ (n == c - k)
count-more k n c h = by (n == c - k) refl
  where
    by : (t : Bool) → (n == c - k) ≡ t → (k + n == c) ≡ t
    by true e = let q = eqb-true n (c - k) e in eq-eqb (k + n) c (omega arith)
    by false e = let q = eqb-false n (c - k) e in ne_eqb (k + n) c (λ z. q (omega arith))

module _ (test : ℤ → Bool) (c : ℕ) (d : Bool) (x v : ℤ) (k : ℕ) (left left' : Option (List ℤ)) (e : left ≡ map (λ (l : List ℤ). replicate k v ++ l) left') where
  long : (r : List ℤ) → length (replicate k v ++ r) ≡ k + length r
  long r = length-append (replicate k v) r ∙ ap (λ (n : ℕ). n + length r) (length-replicate k v)

  -- more values than are left
  pub rest-many : c < k → rest_pass test c d x left ≡ false
  rest-many h = ap (rest_pass test c d x) e ∙ by left'
    where
      by : (o : Option (List ℤ)) → rest_pass test c d x (map (λ (l : List ℤ). replicate k v ++ l) o) ≡ false
      by none = refl
      by (some r) = let l = long r in rw (ne_eqb (length (replicate k v ++ r)) c (λ q. omega arith))

  -- a run that does not pass
  pub rest-off : all_pass test (results_from d x (replicate k v)) ≡ false → rest_pass test c d x left ≡ false
  rest-off h = ap (rest_pass test c d x) e ∙ by left'
    where
      by : (o : Option (List ℤ)) → rest_pass test c d x (map (λ (l : List ℤ). replicate k v ++ l) o) ≡ false
      by none = refl
      by (some r) =
          ap (λ (xs : List ℤ). (length (replicate k v ++ r) == c) && all_pass test xs) (results-append d x (replicate k v) r)
          ∙ ap (λ (t : Bool). (length (replicate k v ++ r) == c) && t) (all_pass-off test (results_from d x (replicate k v)) (results_from d (last_from d x (replicate k v)) r) h)
          ∙ and-false (length (replicate k v ++ r) == c)

  -- a run that passes
  pub rest-on : k ≤ c → all_pass test (results_from d x (replicate k v)) ≡ true → (y : ℤ) → y ≡ last_from d x (replicate k v) → rest_pass test c d x left ≡ rest_pass test (c - k) d y left'
  rest-on h a y q = ap (rest_pass test c d x) e ∙ by left'
    where
      by : (o : Option (List ℤ)) → rest_pass test c d x (map (λ (l : List ℤ). replicate k v ++ l) o) ≡ rest_pass test (c - k) d y o
      by none = refl
      by (some r) =
          ap₂ (λ (t u : Bool). t && u) (ap (λ (n : ℕ). nat_eq n c) (long r) ∙ count-more k (length r) c h)
          (ap (all_pass test) (results-append d x (replicate k v) r) ∙ all_pass-on test (results_from d x (replicate k v)) (results_from d (last_from d x (replicate k v)) r) a ∙ ap (λ (z : ℤ). all_pass test (results_from d z r)) (sym q))

-- where none are left the count decides
pub rest_end : (test : ℤ → Bool) (c : ℕ) (d : Bool) (x : ℤ) (left : Option (List ℤ)) → left ≡ some [] → rest_pass test c d x left ≡ (c == 0)
unfolding all_pass results_from
rest_end test c d x left e = ap (rest_pass test c d x) e ∙ by (c == 0) refl
  where
    by : (t : Bool) → (c == 0) ≡ t → (0 == c && true) ≡ t
    by true q = let z = eqb-true c 0 q in rw (eq-eqb 0 c (sym z))
    by false q = let z = eqb-false c 0 q in rw (ne_eqb 0 c (λ y. z (sym y)))

-- the k sums that are left after x decide of those of a run from a on
abbrev pub RunLeft : (ℤ → Bool) → ℤ → ℤ → ℕ → ℤ → ℕ → Type 0
RunLeft test v a n x k = all_pass test (results_from true a (replicate n v)) ≡ all_pass test (results_from true x (replicate k v))

module _ (test : ℤ → Bool) (v a : ℤ) (n : ℕ) (x : ℤ) (k : ℕ) (w : RunLeft test v a n x k) where
  module _ (h : 0 < k) (y : ℤ) (e : y ≡ plus_delta x v) where
    first : all_pass test (results_from true a (replicate n v)) ≡ (test y && all_pass test (results_from true y (replicate (k - 1) v)))
    unfolding all_pass
    first = w ∙ ap (all_pass test) (results-first true x v k h) ∙ rw e

    -- the next sum passes, or does not
    pub run-left-on : test y ≡ true → RunLeft test v a n y (k - 1)
    run-left-on t = first ∙ rw t

    pub run-left-off : test y ≡ false → all_pass test (results_from true a (replicate n v)) ≡ false
    run-left-off t = first ∙ rw t

  -- none are left
  pub run-left-end : k ≡ 0 → all_pass test (results_from true a (replicate n v)) ≡ true
  unfolding all_pass results_from
  run-left-end e = rw e at w

-- of c plain numbers of a payload those from a place on decide, where `fine` says whether there are so many, and those before pass
abbrev pub Passing : (ℤ → Bool) → ℕ → Size → List ℕ → ℕ → Bool → Type 0
Passing test c z s at fine = held_pass test c false (read_in (Plain z) s) ≡ (fine && all_pass test (numbers_in z (drop at s)))

pub passing-start : (test : ℤ → Bool) (c : ℕ) (z : Size) (s : List ℕ) → Passing test c z s 0 (length s / size_of z == c)
unfolding read_in
passing-start test c z s = ap₂ (λ (n : ℕ) (l : List ℤ). (n == c) && all_pass test l) (length-numbers z s) (results-plain (pos 0) (numbers_in z s))

module _ (test : ℤ → Bool) (c : ℕ) (z : Size) (s : List ℕ) (at : ℕ) (fine : Bool) (w : Passing test c z s at fine) where
  pub passing-on : at + size_of z ≤ length s → Passing test c z s (at + size_of z) (fine && test (signed_at (width_of z) s at))
  unfolding all_pass
  passing-on h = w ∙ ap (λ (l : List ℤ). fine && all_pass test l) (numbers-step z s at h) ∙ by fine
    where
      by : (f : Bool)
          → (f && (test (signed_at (width_of z) s at) && all_pass test (numbers_in z (drop (at + size_of z) s)))) ≡ ((f && test (signed_at (width_of z) s at)) && all_pass test (numbers_in z (drop (at + size_of z) s)))
      by true = refl
      by false = refl

  pub passing-end : length s - at < size_of z → fine ≡ held_pass test c false (read_in (Plain z) s)
  unfolding all_pass
  passing-end h = sym (w ∙ ap (λ (r : List ℤ). fine && all_pass test r) (numbers-end z s at h) ∙ by fine)
    where
      by : (f : Bool) → (f && true) ≡ f
      by true = refl
      by false = refl

-- Sums over the results of a run

module _ (n : ℕ) (atoms bonds : List ℕ) (t : Tally) (xs : List ℤ) where
  -- the tally t with the cells xs to come is the tally u with the cells ys to come
  abbrev pub Onward : Tally → List ℤ → Type 0
  Onward u ys =
      (all_below n xs ≡ all_below n ys) × (t.left + length ys ≡ u.left + length xs) × (t.atoms + total atoms xs ≡ u.atoms + total atoms ys)
      × (t.bonds + total bonds xs ≡ u.bonds + total bonds ys)

  pub onward-start : Onward t xs
  onward-start = (refl, refl, refl, refl)

  module _ (u : Tally) (ps qs : List ℤ) (z : ℤ) (w : Onward u (ps ++ qs)) where
    pub onward-on : (v : Tally) → Adds n atoms bonds u ps z (Some v) → Onward v qs
    onward-on v a =
        let l = length-append ps qs in
        let i = total-append atoms ps qs in
        let j = total-append bonds ps qs in
        (w.0 ∙ all_pass-on _ ps qs a.0, omega (arith, w.1, a.1), omega (arith, w.2, a.2), omega (arith, w.3, a.3))

    pub onward-off : Adds n atoms bonds u ps z None → length xs ≤ t.left → all_below n xs ≡ false
    onward-off a h =
        let l = length-append ps qs in
        w.0 ∙ all_pass-off _ ps qs (a (omega (arith, w.1)))

  -- where none are to come all are added
  pub onward-end : (u : Tally) → Onward u [] → Sound u → Adds n atoms bonds t xs u.last (Some u)
  unfolding all_pass total
  onward-end u w h = (w.0, omega (arith, w.1), omega (arith, w.2), omega (arith, w.3), h, refl)

  -- the next of k sums after a tally's last
  module _ (u : Tally) (v : ℤ) (k : ℕ) (w : Onward u (results_from true u.last (replicate k v))) (h : 0 < k) (y : ℤ) (e : y ≡ plus_delta u.last v) where
    next : Onward u ((y ∷ []) ++ results_from true y (replicate (k - 1) v))
    next = rw e (subst (Onward u) (results-first true u.last v k h) w)

    pub sums_on : (u' : Tally) → Adds n atoms bonds u (replicate 1 y) y (Some u') → Onward u' (results_from true u'.last (replicate (k - 1) v))
    sums_on u' a = rw a.5 (onward-on u (y ∷ []) (results_from true y (replicate (k - 1) v)) y next u' a)

    pub sums-off : Adds n atoms bonds u (replicate 1 y) y None → length xs ≤ t.left → all_below n xs ≡ false
    sums-off a = onward-off u (y ∷ []) (results_from true y (replicate (k - 1) v)) y next a

  -- none are left
  pub sums-end : (u : Tally) (v : ℤ) (k : ℕ) → Onward u (results_from true u.last (replicate k v)) → k ≡ 0 → Sound u → (z : ℤ) → z ≡ last_from true u.last (replicate k v) → Adds n atoms bonds t xs z (Some u)
  unfolding results_from last_from
  sums-end u v k w e h z q = let g = onward-end u (rw e at w) h in (g.0, g.1, g.2, g.3, g.4, sym (rw e at q))

-- Sums over all cells

module _ (n : ℕ) (atoms bonds : List ℕ) where
  -- the answer by whether the cells are as many as are to come, whether they are indices, and their sums
  abbrev answer : Bool → Bool → ℕ → ℕ → Answer Sums
  answer t u a b = cond (t && u) (Some (record { atoms = a; bonds = b })) None

  -- the answer of a tally with the cells ys to come
  abbrev pub sums_after : Tally → List ℤ → Answer Sums
  sums_after t ys = answer (length ys == t.left) (all_below n ys) (t.atoms + total atoms ys) (t.bonds + total bonds ys)

  -- the answer of a tally with the results of values to come
  abbrev pub rest_sums : Bool → Tally → Option (List ℤ) → Answer Sums
  rest_sums d t none = None
  rest_sums d t (some r) = sums_after t (results_from d t.last r)

  pub sums-all : (c : ℕ) (d : Bool) (o : Option (List ℤ)) → held_sums n atoms bonds c d o ≡ rest_sums d (to_come c) o
  sums-all c d none = refl
  sums-all c d (some l) =
      ap (λ (k : ℕ). cond (k == c) (sums_over n atoms bonds (results_from d (pos 0) l)) None) (sym (length-results d (pos 0) l))
      ∙ by (results_from d (pos 0) l)
    where
      joined : (t u : Bool) (a b : ℕ) → cond t (cond u (Some (record { atoms = a; bonds = b })) None) None ≡ answer t u a b
      joined true u a b = refl
      joined false u a b = refl

      by : (ys : List ℤ) → cond (length ys == c) (sums_over n atoms bonds ys) None ≡ sums_after (to_come c) ys
      by ys =
          let a : total atoms ys ≡ 0 + total atoms ys = omega arith in
          let b : total bonds ys ≡ 0 + total bonds ys = omega arith in
          joined (length ys == c) (all_below n ys) (total atoms ys) (total bonds ys) ∙ ap₂ (answer (length ys == c) (all_below n ys)) a b

  module _ (t : Tally) (ps qs : List ℤ) (z : ℤ) where
    -- some cells that are added
    pub after_on : (u : Tally) → Adds n atoms bonds t ps z (Some u) → sums_after t (ps ++ qs) ≡ sums_after u qs
    after_on u a =
        let l = length-append ps qs in
        let i = total-append atoms ps qs in
        let j = total-append bonds ps qs in
        let e = a.1 in
        let f : u.left + length ps - length ps ≡ u.left = omega arith in
        let c : nat_eq (length (ps ++ qs)) t.left ≡ nat_eq (length qs) u.left = ap₂ nat_eq l e ∙ count-more (length ps) (length qs) (u.left + length ps) (omega arith) ∙ ap (nat_eq (length qs)) f in
        let x : t.atoms + total atoms (ps ++ qs) ≡ u.atoms + total atoms qs = omega (arith, a.2) in
        let y : t.bonds + total bonds (ps ++ qs) ≡ u.bonds + total bonds qs = omega (arith, a.3) in
        ap₂ (λ (v w : Bool). answer v w (t.atoms + total atoms (ps ++ qs)) (t.bonds + total bonds (ps ++ qs))) c (all_pass-on _ ps qs a.0) ∙ ap₂ (answer (length qs == u.left) (all_below n qs)) x y

    -- some that are not
    pub after-off : Adds n atoms bonds t ps z None → sums_after t (ps ++ qs) ≡ None
    after-off a = by (length (ps ++ qs) == t.left) refl
      where
        by : (b : Bool) → (length (ps ++ qs) == t.left) ≡ b → sums_after t (ps ++ qs) ≡ None
        by false e = rw e
        by true e =
            let l = length-append ps qs in
            let q = eqb-true (length (ps ++ qs)) t.left e in
            let h : all_below n (ps ++ qs) ≡ false = all_pass-off _ ps qs (a (omega arith)) in
            rw (e, h)

  -- no cell more
  pub after-end : (t : Tally) → sums_after t [] ≡ sums_in t
  unfolding all_pass total
  after-end t =
      let a : t.atoms + 0 ≡ t.atoms = omega arith in
      let b : t.bonds + 0 ≡ t.bonds = omega arith in
      ap₂ (answer (0 == t.left) true) a b ∙ by (t.left == 0) refl
    where
      by : (b : Bool) → (t.left == 0) ≡ b → answer (0 == t.left) true t.atoms t.bonds ≡ cond b (Some (record { atoms = t.atoms; bonds = t.bonds })) None
      by true q = let z = eqb-true t.left 0 q in rw (eq-eqb 0 t.left (sym z))
      by false q = let z = eqb-false t.left 0 q in rw (ne_eqb 0 t.left (λ y. z (sym y)))

  -- the next run after a tally's last
  module _ (d : Bool) (t : Tally) (v : ℤ) (k : ℕ) (left left' : Option (List ℤ)) (e : left ≡ map (λ (l : List ℤ). replicate k v ++ l) left') where
    pub run_on : (u : Tally) → Adds n atoms bonds t (results_from d t.last (replicate k v)) (last_from d t.last (replicate k v)) (Some u) → rest_sums d t left ≡ rest_sums d u left'
    run_on u a = ap (rest_sums d t) e ∙ by left'
      where
        by : (o : Option (List ℤ)) → rest_sums d t (map (λ (l : List ℤ). replicate k v ++ l) o) ≡ rest_sums d u o
        by none = refl
        by (some r) =
            ap (sums_after t) (results-append d t.last (replicate k v) r)
            ∙ after_on t (results_from d t.last (replicate k v)) (results_from d (last_from d t.last (replicate k v)) r) (last_from d t.last (replicate k v)) u a
            ∙ ap (λ (z : ℤ). sums_after u (results_from d z r)) (sym a.5)

    pub run-off : Adds n atoms bonds t (results_from d t.last (replicate k v)) (last_from d t.last (replicate k v)) None → rest_sums d t left ≡ None
    run-off a = ap (rest_sums d t) e ∙ by left'
      where
        by : (o : Option (List ℤ)) → rest_sums d t (map (λ (l : List ℤ). replicate k v ++ l) o) ≡ None
        by none = refl
        by (some r) =
            ap (sums_after t) (results-append d t.last (replicate k v) r)
            ∙ after-off t (results_from d t.last (replicate k v)) (results_from d (last_from d t.last (replicate k v)) r) (last_from d t.last (replicate k v)) a

  pub run_end : (d : Bool) (t : Tally) (left : Option (List ℤ)) → left ≡ some [] → rest_sums d t left ≡ sums_in t
  unfolding results_from
  run_end d t left e = ap (rest_sums d t) e ∙ after-end t

  -- the plain numbers of a payload
  pub numbers-all : (c : ℕ) (z : Size) (s : List ℕ) → held_sums n atoms bonds c false (read_in (Plain z) s) ≡ sums_after (to_come c) (numbers_in z s)
  unfolding read_in
  numbers-all c z s = sums-all c false (some (numbers_in z s)) ∙ ap (sums_after (to_come c)) (results-plain (pos 0) (numbers_in z s))

  module _ (z : Size) (s : List ℕ) (at : ℕ) (t : Tally) where
    pub numbers_on : at + size_of z ≤ length s → (u : Tally) → Adds n atoms bonds t (replicate 1 (signed_at (width_of z) s at)) (signed_at (width_of z) s at) (Some u)
        → sums_after t (numbers_in z (drop at s)) ≡ sums_after u (numbers_in z (drop (at + size_of z) s))
    numbers_on h u a = ap (sums_after t) (numbers-step z s at h) ∙ after_on t (signed_at (width_of z) s at ∷ []) (numbers_in z (drop (at + size_of z) s)) (signed_at (width_of z) s at) u a

    pub numbers-off : at + size_of z ≤ length s → Adds n atoms bonds t (replicate 1 (signed_at (width_of z) s at)) (signed_at (width_of z) s at) None → sums_after t (numbers_in z (drop at s)) ≡ None
    numbers-off h a = ap (sums_after t) (numbers-step z s at h) ∙ after-off t (signed_at (width_of z) s at ∷ []) (numbers_in z (drop (at + size_of z) s)) (signed_at (width_of z) s at) a

    pub numbers-none : length s - at < size_of z → sums_after t (numbers_in z (drop at s)) ≡ sums_in t
    numbers-none h = ap (sums_after t) (numbers-end z s at h) ∙ after-end t

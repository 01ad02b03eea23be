-- Laws of scans: what is kept of the runs before a place, and what is held by forms other than names. Assumes nothing.
use Rattle.std.specs.Prelude.{Result, Ok, Err, ◌≡◌, ℕ, zero, suc, ◌+◌, ◌-◌, ◌<◌, ◌≤◌, Bool, true, false, cond, not, ◌&&◌, ◌||◌, ltb, List, [], ◌∷◌, ◌++◌, length, take, drop, replicate, ℤ, pos, ◌==◌, nat_lt, slice_index_or, refl}
use Rattle.std.proofs.Common.{sym, ap, ap₂, ◌∙◌, append-nil, append_assoc, arith, length-append, take_all, eq-eqb, ne_eqb, eqb-true, lt-ltb, le-ltb, ltb-true, ltb-false}
use Rattle.std.proofs.Math.Option.{Option, none, some, map}
use Rattle.std.proofs.lemmas.List.{length-replicate}
use Rattle.std.proofs.lemmas.Bool.{eqb-false}
use Rattle.refusal.specs.Table.{number_not_allowed, length_differs}
use Rattle.steps.specs.declared.Range.{Range}
use Rattle.steps.specs.declared.Form.{Form}
use Rattle.steps.specs.declared.Form.TheVariants.{Plain, Packed, Runs, Names}
use Rattle.steps.specs.Delta.{sums_if}
use Rattle.steps.specs.Payload.{padded, only_if, read_in, held_in}
use Rattle.steps.proofs.Laws.Allowed.{and-true, and-more}
use Rattle.steps.proofs.Laws.Delta.{results-plain}
use Rattle.columns.specs.Table.{is_names, elements}
use Rattle.payloads.specs.Exact.{exact, all_exact}
use Rattle.payloads.specs.Scan.{scan_of}
use Rattle.payloads.specs.Laws.Exact.{exact-append, exact_same}

-- a list as the part of it that has all of it
pub part-whole : (s : List ℕ) → take (length s - 0) (drop 0 s) ≡ s
part-whole s = take_all (length s - 0) s (omega arith)

-- Places in two lists

pub get_d-left : (p q : List ℤ) (i : ℕ) → i < length p → slice_index_or (p ++ q) i (pos 0) ≡ slice_index_or p i (pos 0)
get_d-left [] q i h = absurd (omega arith)
get_d-left (x ∷ p) q zero h = refl
get_d-left (x ∷ p) q (suc i) h = get_d-left p q i (omega arith)

pub get_d-right : (p q : List ℤ) (i : ℕ) → length p ≤ i → slice_index_or (p ++ q) i (pos 0) ≡ slice_index_or q (i - length p) (pos 0)
get_d-right [] q i h = let e : i - 0 ≡ i = omega arith in rw e
get_d-right (x ∷ p) q zero h = absurd (omega arith)
get_d-right (x ∷ p) q (suc i) h = let e : suc i - suc (length p) ≡ i - length p = omega arith in rw e (get_d-right p q i (omega arith))

-- a place is passed: by now, or by the next k
passed-by : (i m k : ℕ) → (nat_lt i m || nat_lt (i - m) k) ≡ nat_lt i (m + k)
passed-by i m k = by (nat_lt i m) refl
  where
    by : (t : Bool) → nat_lt i m ≡ t → (t || nat_lt (i - m) k) ≡ nat_lt i (m + k)
    by true e = sym (lt-ltb i (m + k) (omega (arith, ltb-true i m e)))
    by false e = rest (nat_lt (i - m) k) refl
      where
        rest : (u : Bool) → nat_lt (i - m) k ≡ u → u ≡ nat_lt i (m + k)
        rest true g = sym (lt-ltb i (m + k) (omega (arith, ltb-false i m e, ltb-true (i - m) k g)))
        rest false g = sym (le-ltb i (m + k) (omega (arith, ltb-false i m e, ltb-false (i - m) k g)))

pub map-id : (o : Option (List ℤ)) → o ≡ map (λ (l : List ℤ). l) o
map-id none = refl
map-id (some l) = refl

pub map_both : {A B C : Type 0} (f : B → C) (g : A → B) (o : Option A) → map f (map g o) ≡ map (λ (x : A). f (g x)) o
map_both f g none = refl
map_both f g (some x) = refl

-- the values behind p of those that are read
pub rest_of : (p l : List ℤ) (o : Option (List ℤ)) → some l ≡ map (λ (m : List ℤ). p ++ m) o → (m : List ℤ) × (o ≡ some m) × (l ≡ p ++ m)
rest_of p l none q = let y : ◌≡◌ {A = ℕ} 0 1 = cc in absurd (omega arith)
rest_of p l (some m) q = let y : l ≡ p ++ m = cc in (m, refl, y)

-- Runs

-- The values p stand before the place: of n results so many are left, whether there were too many, and whether all are exact. With delta
-- they are not judged.
abbrev pub Kept : Range → Bool → ℕ → List ℕ → ℕ → ℕ → Bool → Bool → Type 0
Kept r d n s at left over ok =
    (p : List ℤ) × (read_in (Runs r) s ≡ map (λ (l : List ℤ). p ++ l) (read_in (Runs r) (drop at s))) × (left ≡ n - length p) × (over ≡ nat_lt n (length p))
    × (ok ≡ (not d && all_exact p))

pub kept-start : (r : Range) (d : Bool) (n : ℕ) (s : List ℕ) → Kept r d n s 0 n false (not d)
unfolding all_exact
kept-start r d n s = ([], map-id (read_in (Runs r) s), omega arith, sym (le-ltb n 0 (omega arith)), sym (and-true (not d)))

module _ (r : Range) (d : Bool) (n : ℕ) (s : List ℕ) (at left : ℕ) (over ok : Bool) (w : Kept r d n s at left over ok) where
  pub kept_run : (v : ℤ) (k e : ℕ) → 1 ≤ k → read_in (Runs r) (drop at s) ≡ map (λ (l : List ℤ). replicate k v ++ l) (read_in (Runs r) (drop e s))
      → Kept r d n s e (left - k) (over || nat_lt left k) (ok && exact v)
  kept_run v k e h q =
      let p = w.0 in
      let a = w.1 ∙ ap (map (λ (l : List ℤ). w.0 ++ l)) q ∙ map_both (λ (l : List ℤ). w.0 ++ l) (λ (l : List ℤ). replicate k v ++ l) (read_in (Runs r) (drop e s)) in
      let l = length-append w.0 (replicate k v) ∙ ap (λ (m : ℕ). length w.0 + m) (length-replicate k v) in
      let z = w.2 in (
        w.0 ++ replicate k v,
        simp append_assoc a,
        omega arith,
        ap₂ (λ (b : Bool) (m : ℕ). b || nat_lt m k) w.3 w.2 ∙ passed-by n (length w.0) k ∙ ap (ltb n) (sym l),
        ap (λ (b : Bool). b && exact v) w.4 ∙ and-more (not d) (all_exact w.0) (exact v) ∙ ap (λ (b : Bool). not d && b) (sym (exact-append w.0 (replicate k v) ∙ ap (λ (b : Bool). all_exact w.0 && b) (exact_same k v h))),
      )

  pub kept-wrong : read_in (Runs r) (drop at s) ≡ none → Err number_not_allowed ≡ scan_of (Runs r) d n (read_in (Runs r) s)
  kept-wrong q = let a = w.1 ∙ ap (map (λ (l : List ℤ). w.0 ++ l)) q in rw a

  pub kept-end : read_in (Runs r) (drop at s) ≡ some [] → cond (over || not (left == 0)) (Err length_differs) (Ok ok) ≡ scan_of (Runs r) d n (read_in (Runs r) s)
  kept-end q =
      let whole : read_in (Runs r) s ≡ some w.0 = w.1 ∙ ap (map (λ (l : List ℤ). w.0 ++ l)) q ∙ ap some (append-nil w.0) in
      ended over refl ∙ sym (ap (scan_of (Runs r) d n) whole)
    where
      -- without delta the results are the values
      judged : (b : Bool) → (not b && all_exact w.0) ≡ (not b && all_exact (sums_if b w.0))
      judged true = refl
      judged false = ap all_exact (sym (results-plain (pos 0) w.0))

      fine : ◌≡◌ {A = Result Bool ℕ} (Ok ok) (Ok (not d && all_exact (sums_if d w.0)))
      fine = ap Ok (w.4 ∙ judged d)

      rest : over ≡ false → (t : Bool) → (left == 0) ≡ t → cond (not t) (Err length_differs) (Ok ok) ≡ cond (length w.0 == n) (Ok (not d && all_exact (sums_if d w.0))) (Err length_differs)
      rest o true e = let z = eqb-true left 0 e in let y = w.2 in rw (eq-eqb (length w.0) n (omega (arith, ltb-false n (length w.0) (sym w.3 ∙ o)))) fine
      rest o false e = let z = eqb-false left 0 e in let y = w.2 in rw (ne_eqb (length w.0) n (λ x. z (omega arith)))

      ended : (b : Bool) → over ≡ b → cond (over || not (left == 0)) (Err length_differs) (Ok ok) ≡ cond (length w.0 == n) (Ok (not d && all_exact (sums_if d w.0))) (Err length_differs)
      ended true o = rw (o, ne_eqb (length w.0) n (λ x. omega (arith, ltb-true n (length w.0) (sym w.3 ∙ o))))
      ended false o = rw o (rest o (left == 0) refl)

-- By the form that a payload has

-- forms other than names hold what is read, and have one element for each result
pub held-read : (f : Form) (m : ℕ) (s : List ℕ) → is_names f ≡ false → held_in f m s ≡ read_in f s
unfolding held_in
held-read f m s h = by f h (read_in f s)
  where
    by : (f : Form) → is_names f ≡ false → (o : Option (List ℤ)) → only_if (padded f m) o ≡ o
    by f h none = refl
    by (Plain z) h (some l) = refl
    by (Packed z) h (some l) = refl
    by (Runs r) h (some l) = refl
    by Names h (some l) = let y : ◌≡◌ {A = ℕ} 0 1 = cc in absurd (omega arith)

pub elements-one : (f : Form) (n m : ℕ) → is_names f ≡ false → elements f n m ≡ n
elements-one (Plain z) n m e = refl
elements-one (Packed z) n m e = refl
elements-one (Runs r) n m e = refl
elements-one Names n m e = let y : ◌≡◌ {A = ℕ} 0 1 = cc in absurd (omega arith)

pub scan-held : (f g : Form) (d : Bool) (m n : ℕ) (s : List ℕ) (r : Result Bool ℕ) → is_names f ≡ false → g ≡ f → r ≡ scan_of f d n (read_in f s) → r ≡ scan_of g d (elements g n m) (held_in g m s)
scan-held f g d m n s r h q e =
    e ∙ ap (scan_of f d n) (sym (held-read f m s h)) ∙ ap (λ (c : ℕ). scan_of f d c (held_in f m s)) (sym (elements-one f n m h))
    ∙ ap (λ (x : Form). scan_of x d (elements x n m) (held_in x m s)) (sym q)

-- names are never judged to be exact
names-judged : (d : Bool) (c : ℕ) (o : Option (List ℤ)) → scan_of Names false c o ≡ scan_of Names d c o
names-judged d c none = refl
names-judged d c (some l) = refl

pub scan-names : (g : Form) (d : Bool) (m n : ℕ) (s : List ℕ) (r : Result Bool ℕ) → g ≡ Names → r ≡ scan_of Names false (elements Names n m) (held_in Names m s) → r ≡ scan_of g d (elements g n m) (held_in g m s)
scan-names g d m n s r q e = e ∙ names-judged d (elements Names n m) (held_in Names m s) ∙ ap (λ (x : Form). scan_of x d (elements x n m) (held_in x m s)) (sym q)

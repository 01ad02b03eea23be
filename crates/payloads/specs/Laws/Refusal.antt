-- Laws of the refusal of a payload: a scan says the same, and names are judged by their bytes. Assumes nothing.
use Rattle.std.specs.Prelude.{Ok, Err, ◌≡◌, ℕ, ◌+◌, ◌*◌, ◌/◌, ◌%◌, ◌<◌, Bool, true, false, cond, ◌&&◌, List, map, length, ℤ, pos, ◌==◌, ◌≢◌, nat_eq, refl}
use Rattle.std.proofs.Common.{sym, ap, ap₂, ◌∙◌, add-zero, mul-zero, div-add-mod', mul-div_cancel, arith, eq-eqb, ne_eqb, eqb-true}
use Rattle.std.proofs.Math.Option.{Option, none, some}
use Rattle.std.proofs.Math.Nat.{mul-mod_left}
use Rattle.std.proofs.lemmas.Bool.{eqb-false}
use Rattle.refusal.specs.Table.{number_not_allowed, length_differs}
use Rattle.refusal.specs.First.{unless}
use Rattle.numbers.specs.BigEndian.{Bytes}
use Rattle.steps.specs.declared.Size.{Size}
use Rattle.steps.specs.declared.Size.TheVariants.{One}
use Rattle.steps.specs.declared.Range.TheVariants.{Ascii}
use Rattle.steps.specs.declared.Form.{Form}
use Rattle.steps.specs.declared.Form.TheVariants.{Packed, Names}
use Rattle.steps.specs.Numbers.{numbers_in}
use Rattle.steps.specs.Delta.{sums_if}
use Rattle.steps.specs.Payload.{all_in, padded, allowed, only_if, read_in, held_in}
use Rattle.steps.proofs.Laws.Names.{names-length, allowed-bytes}
use Rattle.columns.specs.Table.{elements, is_names}
use Rattle.payloads.specs.Exact.{all_exact}
use Rattle.payloads.specs.Items.{outcome_refusal}
use Rattle.payloads.specs.Results.{ResultsJudged}
use Rattle.payloads.specs.Scan.{judges_exact, scan_of, refusal_of}
use Rattle.payloads.specs.Laws.Scan.{held-read, elements-one}

module _ (f : Form) (d : Bool) (n : ℕ) where
  -- what a scan says
  pub outcome-scan : (o : Option (List ℤ)) → outcome_refusal (scan_of f d n o) ≡ refusal_of n o
  outcome-scan none = refl
  outcome-scan (some l) = by (length l == n)
    where
      by : (t : Bool) → outcome_refusal (cond t (Ok (judges_exact f d && all_exact (sums_if d l))) (Err length_differs)) ≡ unless t length_differs
      by true = refl
      by false = refl

-- what is read of the payload of a form other than names is what it holds
pub refusal-held : (f g : Form) (m n : ℕ) (s : List ℕ) (r : ℕ) → is_names f ≡ false → g ≡ f → r ≡ refusal_of n (read_in f s)
    → r ≡ refusal_of (elements g n m) (held_in g m s)
refusal-held f g m n s r h q e =
    e ∙ ap (refusal_of n) (sym (held-read f m s h)) ∙ ap (λ (c : ℕ). refusal_of c (held_in f m s)) (sym (elements-one f n m h))
    ∙ ap (λ (x : Form). refusal_of (elements x n m) (held_in x m s)) (sym q)

-- a scan by its refusal
pub refusal-scanned : (f : Form) (d : Bool) (n r : ℕ) (o : Option (List ℤ)) → r ≡ refusal_of n o → (r ≢ 0) → Err r ≡ scan_of f d n o
refusal-scanned f d n r none e h = ap Err e
refusal-scanned f d n r (some l) e h = by (length l == n) e
  where
    by : (t : Bool) → r ≡ unless t length_differs → Err r ≡ cond t (Ok (judges_exact f d && all_exact (sums_if d l))) (Err length_differs)
    by true q = absurd (h q)
    by false q = ap Err q

pub names-scanned : (c m : ℕ) (s : List ℕ) (r : ℕ) → r ≡ refusal_of c (held_in Names m s) → (r ≢ 0) → Err r ≡ scan_of Names false c (held_in Names m s)
names-scanned c m s r e h = refusal-scanned Names false c r (held_in Names m s) e h

-- packed numbers that are not refused, by whether their results are exact
pub packed-scanned : (z : Size) (d : Bool) (n : ℕ) (s : List ℕ) (ok : Bool) → 0 ≡ refusal_of n (read_in (Packed z) s) → ResultsJudged z d s ok → Ok ok ≡ scan_of (Packed z) d n (read_in (Packed z) s)
packed-scanned z d n s ok e h = by (read_in (Packed z) s) e h
  where
    tested : (l : List ℤ) (t : Bool) → 0 ≡ unless t length_differs → ok ≡ all_exact (sums_if d l) → Ok ok ≡ cond t (Ok (all_exact (sums_if d l))) (Err length_differs)
    tested l true q g = ap Ok g
    tested l false q g = absurd (omega arith)

    by : (o : Option (List ℤ)) → 0 ≡ refusal_of n o → ((l : List ℤ) → o ≡ some l → ok ≡ all_exact (sums_if d l)) → Ok ok ≡ scan_of (Packed z) d n o
    by none q g = absurd (omega arith)
    by (some l) q g = tested l (length l == n) q (g l refl)

pub names-fine : (c m : ℕ) (s : List ℕ) → 0 ≡ refusal_of c (held_in Names m s) → Ok false ≡ scan_of Names false c (held_in Names m s)
names-fine c m s e = by (held_in Names m s) e
  where
    tested : (t : Bool) → 0 ≡ unless t length_differs → Ok false ≡ cond t (Ok false) (Err length_differs)
    tested true q = refl
    tested false q = absurd (omega arith)

    by : (o : Option (List ℤ)) → 0 ≡ refusal_of c o → Ok false ≡ scan_of Names false c o
    by none q = absurd (omega arith)
    by (some l) q = tested (length l == c) q

-- Names, by their bytes

-- the refusal by whether names are allowed, and whether they are as many as stated
abbrev names_by : Bool → Bool → ℕ
names_by t u = cond t (unless u length_differs) number_not_allowed

pub names-told : (n m : ℕ) (s : List ℕ) (t u : Bool) → Bytes s → t ≡ allowed Names m (map pos s) → u ≡ (length s == n * m) → names_by t u ≡ refusal_of (elements Names n m) (held_in Names m s)
unfolding held_in read_in
names-told n m s t u b e f =
    ap₂ names_by (e ∙ sym (allowed-bytes m s b)) (f ∙ ap (λ (l : ℕ). nat_eq l (n * m)) (sym (names-length s))) ∙ by (all_in Ascii (numbers_in One s)) (padded Names m (numbers_in One s)) refl
  where
    by : (v w : Bool) → padded Names m (numbers_in One s) ≡ w → names_by (v && w) (length (numbers_in One s) == n * m) ≡ refusal_of (n * m) (only_if (padded Names m) (cond v (some (numbers_in One s)) none))
    by true true q = rw q
    by true false q = rw q
    by false w q = refl

pub names-as : (g : Form) (m n : ℕ) (s : List ℕ) (r : ℕ) → g ≡ Names → r ≡ refusal_of (elements Names n m) (held_in Names m s) → r ≡ refusal_of (elements g n m) (held_in g m s)
names-as g m n s r q e = e ∙ ap (λ (x : Form). refusal_of (elements x n m) (held_in x m s)) (sym q)

-- a length by its quotient and its remainder
module _ (all n size : ℕ) where
  pub product-none : size ≡ 0 → (all == 0) ≡ (all == n * size)
  product-none e = let q : n * size ≡ 0 = rw e (mul-zero n) in ap (nat_eq all) (sym q)

  pub product-part : 0 < size → (all % size ≢ 0) → false ≡ (all == n * size)
  product-part h q = sym (ne_eqb all (n * size) (λ e. q (ap (λ (k : ℕ). k % size) e ∙ mul-mod_left n size)))

  pub product_whole : 0 < size → all % size ≡ 0 → (all / size == n) ≡ (all == n * size)
  product_whole h q = by (all / size == n) refl
    where
      by : (t : Bool) → (all / size == n) ≡ t → t ≡ (all == n * size)
      by true e =
          let d = div-add-mod' all size in
          let k : all ≡ n * size = sym d ∙ ap₂ (λ (x y : ℕ). x * size + y) (eqb-true (all / size) n e) q ∙ add-zero (n * size) in
          sym (eq-eqb all (n * size) k)
      by false e = sym (ne_eqb all (n * size) (λ k. eqb-false (all / size) n e (ap (λ (x : ℕ). x / size) k ∙ mul-div_cancel n h)))

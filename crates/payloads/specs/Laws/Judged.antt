-- Laws that join the answer for a payload to what a column decodes to. Assumes nothing.
use Rattle.std.specs.Prelude.{Ok, Err, ◌≡◌, ℕ, ◌<◌, ◌≤◌, Bool, true, false, cond, ◌&&◌, List, ◌++◌, map, length, drop, ℤ, ◌==◌, ◌≢◌, refl}
use Rattle.std.proofs.Common.{sym, ap, ap₂, subst, ◌∙◌, arith, eqb-true}
use Rattle.std.proofs.Math.Option.{Option, none, some}
use Rattle.refusal.specs.Table.{number_not_allowed, length_differs, buffer_too_small}
use Rattle.refusal.specs.First.{unless}
use Rattle.steps.specs.declared.Form.{Form}
use Rattle.steps.specs.Delta.{sums_if}
use Rattle.steps.specs.Payload.{read_in, held_in}
use Rattle.steps.proofs.Laws.Delta.{length-sums_if}
use Rattle.steps.proofs.Laws.PayloadBack.{held_in-read}
use Rattle.columns.specs.declared.Kind.{Kind}
use Rattle.columns.specs.Header.{header_with}
use Rattle.columns.specs.Table.{is_names, elements}
use Rattle.columns.specs.Decode.{Decoding, refused, column, judged_values, judged_payload}
use Rattle.columns.proofs.Laws.Buffer.{Answers, answers-small, answers-done}
use Rattle.payloads.specs.Exact.{all_exact}
use Rattle.payloads.specs.Results.{Wrote}
use Rattle.payloads.specs.Scan.{judges_exact, scan_of, refusal_of}
use Rattle.payloads.specs.Laws.Scan.{held-read, elements-one}

module _ (n m : ℕ) (k : Kind) (f : Form) (d : Bool) (s : List ℕ) where
  -- a payload that is refused
  pub judged-refused : (r : ℕ) → r ≡ refusal_of (elements f n m) (held_in f m s) → (r ≢ 0) → judged_payload (header_with n m k f d) s ≡ refused r
  judged-refused r e h = by (held_in f m s) e
    where
      tested : (l : List ℤ) (t : Bool) → r ≡ unless t length_differs → cond t (column k m (sums_if d l)) (refused length_differs) ≡ refused r
      tested l true q = absurd (h q)
      tested l false q = ap refused (sym q)

      by : (o : Option (List ℤ)) → r ≡ refusal_of (elements f n m) o → judged_values (elements f n m) m k d o ≡ refused r
      by none q = ap refused (sym q)
      by (some l) q = tested l (length l == elements f n m) q

  -- one that is not holds the values of a column
  pub judged-fine : 0 ≡ refusal_of (elements f n m) (held_in f m s)
      → (l : List ℤ) × (held_in f m s ≡ some l) × (length l ≡ elements f n m) × (judged_payload (header_with n m k f d) s ≡ column k m (sums_if d l))
  judged-fine e = by (held_in f m s) refl e
    where
      tested : (l : List ℤ) (t : Bool) → (length l == elements f n m) ≡ t → 0 ≡ unless t length_differs
          → (length l ≡ elements f n m) × (judged_values (elements f n m) m k d (some l) ≡ column k m (sums_if d l))
      tested l true a q = (eqb-true (length l) (elements f n m) a, rw a)
      tested l false a q = absurd (omega arith)

      by : (o : Option (List ℤ)) → held_in f m s ≡ o → 0 ≡ refusal_of (elements f n m) o
          → (l : List ℤ) × (held_in f m s ≡ some l) × (length l ≡ elements f n m) × (judged_payload (header_with n m k f d) s ≡ column k m (sums_if d l))
      by none a q = absurd (omega arith)
      by (some l) a q = let w = tested l (length l == elements f n m) refl q in (l, a, w.0, ap (judged_values (elements f n m) m k d) a ∙ w.1)

  -- a scan that refuses, and one that does not
  pub scan-refused : (r : ℕ) → scan_of f d (elements f n m) (held_in f m s) ≡ Err r → judged_payload (header_with n m k f d) s ≡ refused r
  scan-refused r e = by (held_in f m s) e
    where
      tested : (l : List ℤ) (t : Bool) → cond t (Ok (judges_exact f d && all_exact (sums_if d l))) (Err length_differs) ≡ Err r → cond t (column k m (sums_if d l)) (refused length_differs) ≡ refused r
      tested l true q = let y : ◌≡◌ {A = ℕ} 0 1 = cc in absurd (omega arith)
      tested l false q = let y : length_differs ≡ r = cc in ap refused y

      by : (o : Option (List ℤ)) → scan_of f d (elements f n m) o ≡ Err r → judged_values (elements f n m) m k d o ≡ refused r
      by none q = let y : number_not_allowed ≡ r = cc in ap refused y
      by (some l) q = tested l (length l == elements f n m) q

  pub scan-accepted : (e : Bool) → scan_of f d (elements f n m) (held_in f m s) ≡ Ok e
      → (0 ≡ refusal_of (elements f n m) (held_in f m s)) × ((l : List ℤ) → held_in f m s ≡ some l → e ≡ (judges_exact f d && all_exact (sums_if d l)))
  scan-accepted e q = by (held_in f m s) q
    where
      tested : (l : List ℤ) (t : Bool) → cond t (Ok (judges_exact f d && all_exact (sums_if d l))) (Err length_differs) ≡ Ok e
          → (0 ≡ unless t length_differs) × (e ≡ (judges_exact f d && all_exact (sums_if d l)))
      tested l true a = let y : (judges_exact f d && all_exact (sums_if d l)) ≡ e = cc in (refl, sym y)
      tested l false a = let y : ◌≡◌ {A = ℕ} 0 1 = cc in absurd (omega arith)

      by : (o : Option (List ℤ)) → scan_of f d (elements f n m) o ≡ Ok e → (0 ≡ refusal_of (elements f n m) o) × ((l : List ℤ) → o ≡ some l → e ≡ (judges_exact f d && all_exact (sums_if d l)))
      by none a = let y : ◌≡◌ {A = ℕ} 0 1 = cc in absurd (omega arith)
      by (some l) a =
          let w = tested l (length l == elements f n m) a in
          (w.0, (λ x z. let y : l ≡ x = cc in w.1 ∙ ap (λ (v : List ℤ). judges_exact f d && all_exact (sums_if d v)) y))

  -- the values l are read, one for each result, and the column decodes to their results
  abbrev pub Holds : Type 0
  Holds = (l : List ℤ) × (read_in f s ≡ some l) × (length l ≡ n) × (judged_payload (header_with n m k f d) s ≡ column k m (sums_if d l))

  -- other forms than names have one value for each result
  module _ (other : is_names f ≡ false) where
    pub read-fine : 0 ≡ refusal_of (elements f n m) (held_in f m s) → Holds
    read-fine e = let g = judged-fine e in (g.0, held_in-read f m s g.0 g.1, g.2 ∙ elements-one f n m other, g.3)

    pub judged-read : judged_payload (header_with n m k f d) s ≡ judged_values n m k d (read_in f s)
    judged-read = ap₂ (λ (e : ℕ) (o : Option (List ℤ)). judged_values e m k d o) (elements-one f n m other) (held-read f m s other)

    -- a scan that is not refused says whether they are exact
    pub scan-fine : (e : Bool) → scan_of f d (elements f n m) (held_in f m s) ≡ Ok e → (h : Holds) × (e ≡ (judges_exact f d && all_exact (sums_if d h.0)))
    scan-fine e q = let w = scan-accepted e q in let h = read-fine w.0 in (h, w.1 h.0 (held-read f m s other ∙ h.1))

-- the answer and the buffer of a column x whose results are those of a payload
module _ {B : Type 0} (element : Kind → ℕ → ℤ → B) (n m : ℕ) (k : Kind) (f : Form) (d : Bool) (s : List ℕ) (h : Holds n m k f d s) where
  pub holds-length : length (sums_if d h.0) ≡ n
  holds-length = length-sums_if d h.0 ∙ h.2

  module _ (x : Decoding) (e : x ≡ column k m (sums_if d h.0)) (old : List B) where
    -- 25
    pub holds-small : length old < n → Answers element x old (Err buffer_too_small) old
    holds-small l = answers-small element x old k m (sums_if d h.0) e (rw holds-length l)

    pub holds-done : n ≤ length old → (new : List B) → Wrote (element k m) f d s old new → Answers element x old (Ok n) new
    holds-done l new w =
        let a : length h.0 ≡ length (sums_if d h.0) = sym (length-sums_if d h.0) in
        subst (λ (i : ℕ). Answers element x old (Ok i) new) holds-length
        (answers-done element x old k m (sums_if d h.0) e (rw holds-length l) new (w h.0 h.1 ∙ ap (λ (j : ℕ). map (element k m) (sums_if d h.0) ++ drop j old) a))

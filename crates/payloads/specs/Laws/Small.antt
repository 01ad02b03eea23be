-- Laws of packed numbers of which few are limits: their results without delta are small, and so exact. Assumes nothing.
use Rattle.std.specs.Prelude.{◌≡◌, ℕ, suc, ◌+◌, ◌-◌, ◌*◌, ◌≤◌, Bool, true, false, cond, List, [], ◌∷◌, length, ℤ, pos, ◌+ℤ◌, FitsSigned, ◌==◌}
use Rattle.std.proofs.Math.Path.{refl, ap}
use Rattle.std.proofs.Common.{sym, ◌∙◌}
use Rattle.std.proofs.Math.Option.{Option, none, some, map}
use native.Mathlib.Omega.{arith}
use Rattle.std.specs.Int.Signed.{mag}
use borrow.Author.Tests.{eqb-true}
use Rattle.refusal.specs.Table.{length_differs}
use Rattle.refusal.specs.First.{unless}
use Rattle.steps.specs.declared.Form.TheVariants.{Packed}
use Rattle.steps.specs.Width.{width_of, upper, lower}
use Rattle.steps.specs.Fits.{Every}
use Rattle.steps.specs.Numbers.{numbers_in}
use Rattle.steps.specs.Packing.{is_limit, in32, unpack_from}
use Rattle.steps.specs.Payload.{read_in}
use Rattle.steps.proofs.Laws.Numbers.{length-numbers}
use Rattle.steps.proofs.Laws.NumbersBack.{numbers_in-fit}
use Rattle.steps.proofs.Laws.Packing.{mag-add}
use Rattle.steps.proofs.Laws.Delta.{results-plain}
use Rattle.payloads.specs.Exact.{all_exact}
use Rattle.payloads.specs.Limits.{packed_size, exact_limits}
use Rattle.payloads.specs.Blocks.{count_in}
use Rattle.payloads.specs.Results.{ResultsJudged}
use Rattle.payloads.specs.Scan.{refusal_of}
use Rattle.payloads.specs.Laws.Limits.{no_row, near-exact}

module _ (two : Bool) where
  -- a number more on top of limits
  near : (x y : ℤ) (row : ℕ) → mag x ≤ lower (packed_size two) * row → FitsSigned (width_of (packed_size two)) y → mag (x +ℤ y) ≤ lower (packed_size two) * suc row
  near x y row h f = by two (mag-add x y) h f
    where
      by : (t : Bool) → mag (x +ℤ y) ≤ suc (mag x + mag y) → mag x ≤ lower (packed_size t) * row → FitsSigned (width_of (packed_size t)) y → mag (x +ℤ y) ≤ lower (packed_size t) * suc row
      by true a b f = let c = f.sfits in omega arith
      by false a b f = let c = f.sfits in omega arith

  -- the results of numbers after a row of limits that have a sum
  abbrev Small : List ℤ → ℕ → List ℤ → Type 0
  Small xs row l = (length l ≤ length xs) × (row + (length xs - length l) ≤ exact_limits two → all_exact l ≡ true)

  few-small : (xs : List ℤ) (sum : ℤ) (begun : Bool) (row : ℕ) (l : List ℤ) → Every (FitsSigned (width_of (packed_size two))) xs → mag sum ≤ lower (packed_size two) * row
      → unpack_from (upper (packed_size two)) (lower (packed_size two)) sum begun xs ≡ some l → Small xs row l
  unfolding unpack_from Every all_exact
  few-small [] sum begun row l f h e = by begun e
    where
      by : (b : Bool) → cond b none (some []) ≡ some l → Small [] row l
      by true e = let y : ◌≡◌ {A = ℕ} 0 1 = cc in absurd (omega arith)
      by false e = let q : [] ≡ l = cc in rw (← q) (omega arith, (λ k. refl))
  few-small (x ∷ xs) sum begun row l f h e =
      by (in32 (sum +ℤ x)) (is_limit (upper (packed_size two)) (lower (packed_size two)) x) (near sum x row h f.0) (few-small xs (sum +ℤ x) true (suc row) l f.1) (λ t. few-small xs (pos 0) false 0 t f.1 (no_row two)) e
    where
      ends : (o : Option (List ℤ)) → mag (sum +ℤ x) ≤ lower (packed_size two) * suc row → ((t : List ℤ) → o ≡ some t → Small xs 0 t) → map (λ (l : List ℤ). (sum +ℤ x) ∷ l) o ≡ some l → Small (x ∷ xs) row l
      ends none n g e = let y : ◌≡◌ {A = ℕ} 0 1 = cc in absurd (omega arith)
      ends (some t) n g e =
          let q : (sum +ℤ x) ∷ t ≡ l = cc in
          let a = g t refl in
          let b = a.0 in
          rw (← q) (omega arith, (λ k. rw (near-exact two (sum +ℤ x) row n (omega arith), a.1 (omega arith))))

      by : (a b : Bool) → mag (sum +ℤ x) ≤ lower (packed_size two) * suc row
          → (mag (sum +ℤ x) ≤ lower (packed_size two) * suc row → unpack_from (upper (packed_size two)) (lower (packed_size two)) (sum +ℤ x) true xs ≡ some l → Small xs (suc row) l)
          → ((t : List ℤ) → unpack_from (upper (packed_size two)) (lower (packed_size two)) (pos 0) false xs ≡ some t → Small xs 0 t)
          → cond a (cond b (unpack_from (upper (packed_size two)) (lower (packed_size two)) (sum +ℤ x) true xs) (map (λ (l : List ℤ). (sum +ℤ x) ∷ l) (unpack_from (upper (packed_size two)) (lower (packed_size two)) (pos 0) false xs))) none ≡ some l → Small (x ∷ xs) row l
      by false b n g k e = let y : ◌≡◌ {A = ℕ} 0 1 = cc in absurd (omega arith)
      by true true n g k e = let a = g n e in let b = a.0 in (omega arith, (λ m. a.1 (omega arith)))
      by true false n g k e = ends (unpack_from (upper (packed_size two)) (lower (packed_size two)) (pos 0) false xs) n k e

  -- a payload with few limits, that is not refused
  pub few-judged : (d : Bool) (s : List ℕ) (n : ℕ) → d ≡ false → 0 ≡ refusal_of n (read_in (Packed (packed_size two)) s) → count_in (packed_size two) s - n ≤ exact_limits two → ResultsJudged (packed_size two) d s true
  unfolding read_in
  few-judged d s n f r k l e =
      let c = length-numbers (packed_size two) s in
      let m = counted (length l == n) refl (r ∙ ap (refusal_of n) e) in
      let w = few-small (numbers_in (packed_size two) s) (pos 0) false 0 l (numbers_in-fit (packed_size two) s) (no_row two) e in
      rw (f, results-plain (pos 0) l) (sym (w.1 (omega arith)))
    where
      counted : (t : Bool) → (length l == n) ≡ t → 0 ≡ unless t length_differs → length l ≡ n
      counted true q e = eqb-true (length l) n q
      counted false q e = absurd (omega arith)

-- Laws of a real column's cells: whether they are exact, and what the column then is. Assumes nothing.
use Rattle.std.specs.Prelude.{◌≡◌, Bool, true, false, not, ◌&&◌, List, ℕ, ℤ, pos}
use Rattle.std.proofs.Common.{sym, ap, ◌∙◌}
use Rattle.refusal.specs.Table.{not_exact}
use Rattle.steps.specs.declared.Form.{Form}
use Rattle.steps.specs.Delta.{sums_if}
use Rattle.columns.specs.declared.Kind.{Kind}
use Rattle.columns.specs.Header.{header_with}
use Rattle.columns.specs.Table.{divides}
use Rattle.columns.specs.Decode.{refused, column, judged_payload}
use Rattle.payloads.specs.Exact.{exact, all_exact}
use Rattle.payloads.specs.Scan.{judges_exact}
use Rattle.payloads.specs.Results.{ResultsExact}
use Rattle.payloads.specs.Laws.Judged.{Holds}
use Rattle.floats.specs.Calls.{exactly}

module _ (n m : ℕ) (k : Kind) (f : Form) (d : Bool) (s : List ℕ) (h : Holds n m k f d s) where
  -- a form that is judged says whether the cells are exact
  pub holds_exact : (e : Bool) → e ≡ (judges_exact f d && all_exact (sums_if d h.0)) → judges_exact f d ≡ true → all_exact (sums_if d h.0) ≡ e
  holds_exact e q j = sym (q ∙ ap (λ (t : Bool). t && all_exact (sums_if d h.0)) j)

  pub all_results : all_exact (sums_if d h.0) ≡ true → ResultsExact f d s
  all_results a l q = let z : h.0 ≡ l = cc in ap (λ (t : List ℤ). all_exact (sums_if d t)) (sym z) ∙ a

  -- 27
  pub exactly-refused : divides k ≡ true → (all_exact (sums_if d h.0) && exact (pos m)) ≡ false → exactly (judged_payload (header_with n m k f d) s) ≡ refused not_exact
  exactly-refused a b = rw (h.3, a, b)

  pub exactly-column : (divides k && not (all_exact (sums_if d h.0) && exact (pos m))) ≡ false → exactly (judged_payload (header_with n m k f d) s) ≡ column k m (sums_if d h.0)
  exactly-column e = rw (h.3, e)

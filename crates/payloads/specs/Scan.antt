-- What one pass over a payload answers: its refusal (18, then 19), or whether its results are exact. No lemma stands here: the laws are
-- in Laws/Scan.antt. Assumes nothing.
use Rattle.std.specs.Prelude.{Result, Ok, Err, ℕ, Bool, true, false, cond, not, ◌&&◌, List, length, ℤ, ◌==◌}
use Rattle.std.proofs.Math.Option.{Option, none, some}
use Rattle.refusal.specs.Table.{number_not_allowed, length_differs}
use Rattle.refusal.specs.First.{unless}
use Rattle.steps.specs.declared.Size.TheVariants.{One, Two, Four}
use Rattle.steps.specs.declared.Form.{Form}
use Rattle.steps.specs.declared.Form.TheVariants.{Plain, Packed, Runs, Names}
use Rattle.steps.specs.Delta.{sums_if}
use Rattle.payloads.specs.Exact.{all_exact}

-- The forms whose results are judged to be exact: those that a divisor may follow. Of the others the scan says no.
abbrev pub judges_exact : Form → Bool → Bool
judges_exact (Plain One) delta = not delta
judges_exact (Plain Two) delta = not delta
judges_exact (Plain Four) delta = false
judges_exact (Packed z) delta = true
judges_exact (Runs r) delta = not delta
judges_exact Names delta = false

-- the answer for n results
abbrev pub scan_of : Form → Bool → ℕ → Option (List ℤ) → Result Bool ℕ
scan_of f d n none = Err number_not_allowed
scan_of f d n (some l) = cond (length l == n) (Ok (judges_exact f d && all_exact (sums_if d l))) (Err length_differs)

-- the refusal of n results, or 0
abbrev pub refusal_of : ℕ → Option (List ℤ) → ℕ
refusal_of n none = number_not_allowed
refusal_of n (some l) = unless (length l == n) length_differs

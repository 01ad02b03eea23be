-- None so far, if the count is 0: no row passed has the print.
use Rattle.std.proofs.Common.{◌≡◌, ℕ, ◌-◌, ◌<◌, ◌≤◌, get_or}
use Rattle.messagepack.proofs.hits.Given as goal

abbrev pub invariant-loop-i : goal.invariant-loop-i
invariant-loop-i l =
    (l.base ≤ l.i) × (l.i ≤ l.end) × (l.n ≤ l.i - l.base) × (l.n ≡ 0 → (j : ℕ) → l.base ≤ j → j < l.i → get_or l.prints j 0 ≡ l.print → ⊥)

abbrev pub decreases-loop-i : goal.decreases-loop-i
decreases-loop-i l = l.end - l.i

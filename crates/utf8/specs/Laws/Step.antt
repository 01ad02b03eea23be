-- What steps give one after another. Assumes nothing.
use Rattle.std.specs.Prelude.{◌≡◌, Option, Some, None, true, false, List, ℕ, ◌+◌, ◌<◌, ◌≤◌, drop}
use Rattle.std.proofs.Common.{◌∙◌, subst, arith}
use Rattle.utf8.specs.Check.{is_lead, following, lowest, highest, due, is_utf8}
use Rattle.utf8.specs.Step.{Forward, LeadAt}
use Rattle.utf8.specs.Laws.Check.{lead-at}

-- a byte that starts no character is a fault
pub lead-fault : {s : List ℕ} {at lead low high : ℕ} → LeadAt s at lead low high → is_lead lead ≡ false → is_utf8 (drop at s) ≡ false
lead-fault {s} {at} p t = lead-at s at p.inside ∙ rw (← p.same) (simp t)

-- after a byte that does, what follows it decides
pub lead-more : {s : List ℕ} {at lead low high : ℕ} → LeadAt s at lead low high → is_lead lead ≡ true
    → is_utf8 (drop at s) ≡ due (following lead) (lowest lead) (highest lead) (drop (at + 1) s)
lead-more {s} {at} p t = lead-at s at p.inside ∙ rw (← p.same) (simp t)

pub forward-next : (a e : ℕ) {n : ℕ} {r : Option ℕ} → Forward a e r → r ≡ Some n → (a < n) × (n ≤ e)
forward-next a e f q = subst (Forward a e) q f

pub forward-from : (e : ℕ) {a b : ℕ} (r : Option ℕ) → a ≤ b → Forward b e r → Forward a e r
forward-from e (Some n) h f = omega arith
forward-from e None h f = tt

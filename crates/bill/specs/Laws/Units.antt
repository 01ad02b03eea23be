-- The units lines: the accepted jobs, which are counted from the verdicts, are the sum of the units, of a station and of all receipts.
-- Assumes nothing.
use Rattle.std.specs.Prelude.{◌≡◌, ℕ, suc, ◌+◌, Bool, true, false, cond, ◌&&◌, List, [], ◌∷◌, refl}
use Rattle.std.proofs.Common.{arith}
use Rattle.receipt.specs.declared.Receipt.{Receipt}
use Rattle.bill.specs.Run.{all_kept}
use Rattle.bill.specs.Bill.{counted, is_of, is_accepted, accepted_of, all_accepted}
use Rattle.bill.specs.Sums.{units_sum}
use Rattle.bill.specs.Laws.Run.{kept-first, kept-rest}
use Rattle.bill.specs.Laws.Sums.{kept-units}

-- the accepted receipts among those that pass a test are as many as the units of these
units-counted : (test : Receipt → Bool) (rs : List Receipt) → all_kept rs ≡ true → counted (λ (r : Receipt). test r && is_accepted r) rs ≡ units_sum test rs
unfolding counted units_sum
units-counted test [] h = refl
units-counted test (r ∷ rs) h = go (test r) (is_accepted r) (kept-units r (kept-first r rs h)) (units-counted test rs (kept-rest r rs h))
  where
    go : (a b : Bool) → r.units ≡ cond b 1 0 → counted (λ (r : Receipt). test r && is_accepted r) rs ≡ units_sum test rs
        → cond (a && b) (suc (counted (λ (r : Receipt). test r && is_accepted r) rs)) (counted (λ (r : Receipt). test r && is_accepted r) rs) ≡ cond a (r.units + units_sum test rs) (units_sum test rs)
    go true true u e = omega arith
    go true false u e = omega arith
    go false b u e = e

-- the accepted jobs of a station are the sum of its units
pub units-station : (s : ℕ) (rs : List Receipt) → all_kept rs ≡ true → accepted_of s rs ≡ units_sum (is_of s) rs
units-station s rs h = units-counted (is_of s) rs h

-- the total is the sum of all units
pub units-total : (rs : List Receipt) → all_kept rs ≡ true → all_accepted rs ≡ units_sum (λ (r : Receipt). true) rs
units-total rs h = units-counted (λ (r : Receipt). true) rs h

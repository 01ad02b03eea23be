-- What is added up of a bill's entries and of receipts, for the statement of the bill. No lemma stands here: the laws are in Laws/Sums.antt and
-- Laws/Units.antt. Assumes nothing.
use Rattle.std.specs.Prelude.{ℕ, ◌+◌, Bool, cond, List, [], ◌∷◌}
use Rattle.receipt.specs.declared.Receipt.{Receipt}
use Rattle.bill.specs.Bill.{Entry}

-- the accepted jobs of all entries, and the refused ones
unfoldable pub entries_accepted : List Entry → ℕ
entries_accepted [] = 0
entries_accepted (e ∷ es) = e.accepted + entries_accepted es

unfoldable pub entries_refused : List Entry → ℕ
entries_refused [] = 0
entries_refused (e ∷ es) = e.refused + entries_refused es

-- the stations of entries, in their order
unfoldable pub stations_in : List Entry → List ℕ
stations_in [] = []
stations_in (e ∷ es) = e.station ∷ stations_in es

-- the units lines of the receipts that pass a test, added up
unfoldable pub units_sum : (Receipt → Bool) → List Receipt → ℕ
units_sum test [] = 0
units_sum test (r ∷ rs) = cond (test r) (r.units + units_sum test rs) (units_sum test rs)

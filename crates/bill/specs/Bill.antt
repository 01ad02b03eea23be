-- The bill of receipts (paper 02, wish 1): for each station that occurs its accepted and its refused jobs, stations rising, and then the total of
-- the accepted ones; and its text. No reader and no lemma stands here: the laws are in Laws/Bill.antt. Assumes nothing.
use Rattle.std.specs.Prelude.{ℕ, suc, Bool, cond, not, ◌&&◌, List, [], ◌∷◌, ◌++◌, ◌==◌, nat_lt}
use Rattle.refusal.specs.Table.{accepted}
use Rattle.receipt.specs.declared.Receipt.{Receipt}
use Rattle.receipt.specs.Receipt.{named_line}
use Rattle.bill.specs.Run.{stations}

-- the jobs of one station
pub record Entry : Type 0 where
  pub station : ℕ
  pub accepted : ℕ
  pub refused : ℕ

-- a bill: its entries, and all accepted jobs
pub record Bill : Type 0 where
  pub entries : List Entry
  pub total : ℕ

-- how many receipts pass a test
unfoldable pub counted : (Receipt → Bool) → List Receipt → ℕ
counted test [] = 0
counted test (r ∷ rs) = cond (test r) (suc (counted test rs)) (counted test rs)

-- whether a receipt is of a station, and whether its verdict is 0
abbrev pub is_of : ℕ → Receipt → Bool
is_of s r = r.station == s

abbrev pub is_accepted : Receipt → Bool
is_accepted r = r.verdict == accepted

-- the receipts of a station: all, those with verdict 0, and the others
abbrev pub receipts_of : ℕ → List Receipt → ℕ
receipts_of s rs = counted (is_of s) rs

abbrev pub accepted_of : ℕ → List Receipt → ℕ
accepted_of s rs = counted (λ (r : Receipt). is_of s r && is_accepted r) rs

abbrev pub refused_of : ℕ → List Receipt → ℕ
refused_of s rs = counted (λ (r : Receipt). is_of s r && not (is_accepted r)) rs

-- all receipts with verdict 0
abbrev pub all_accepted : List Receipt → ℕ
all_accepted rs = counted is_accepted rs

-- the entries of those of some stations that occur, in the order of the stations
unfoldable pub entries_in : List ℕ → List Receipt → List Entry
entries_in [] rs = []
entries_in (s ∷ ss) rs =
    cond (nat_lt 0 (receipts_of s rs)) (record { station = s; accepted = accepted_of s rs; refused = refused_of s rs } ∷ entries_in ss rs) (entries_in ss rs)

-- the bill of receipts
abbrev pub bill_of : List Receipt → Bill
bill_of rs = record { entries = entries_in stations rs; total = all_accepted rs }

-- the three lines of an entry
unfoldable pub entry_text : Entry → List ℕ
entry_text e = named_line "station" e.station ++ named_line "accepted" e.accepted ++ named_line "refused" e.refused

unfoldable pub entries_text : List Entry → List ℕ
entries_text [] = []
entries_text (e ∷ es) = entry_text e ++ entries_text es

-- the lines of a bill: those of its entries, and the total
unfoldable pub bill_text : Bill → List ℕ
bill_text b = entries_text b.entries ++ named_line "total" b.total

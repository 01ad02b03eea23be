-- For the code inside: a ledger of three columns, and the lines of one station of a ledger's bill. No lemma stands here. Assumes nothing.
use Rattle.std.specs.Prelude.{ℕ, cond, ◌&&◌, List, [], ◌==◌}
use Rattle.bill.specs.Bill.{entry_text}
use Rattle.bill.specs.declared.Ledger.{Ledger}

abbrev pub ledger : List ℕ → List ℕ → List ℕ → Ledger
ledger jobs accepted refused = record { jobs = jobs; accepted = accepted; refused = refused }

-- the lines of a station with these jobs; none where it has no jobs
abbrev pub ledger_entry : ℕ → ℕ → ℕ → List ℕ
ledger_entry s a r = cond (a == 0 && r == 0) [] (entry_text (record { station = s; accepted = a; refused = r }))

-- What is added and what is left give the total. Assumes nothing.
use Rattle.std.proofs.Common.{◌≡◌, ℕ, ◌+◌, ◌%◌, sym, ap, ◌∙◌, mod-lt, mod-eq_of_lt, arith}
use Rattle.bill.specs.Ledger.{ledger_total}
use Rattle.bill.specs.Laws.Entries.{stations_left, total_first, total-next, total-none}
use Rattle.bill.proofs.total_of.Goals as goal

pub loop-station-init : goal.loop-station-init
loop-station-init c = (omega arith, omega arith, ap (λ (n : ℕ). n % 4294967296) (omega (arith, total_first c.args.accepted.now)))

pub loop-station-preserved : goal.loop-station-preserved
loop-station-preserved c =
    let p = c.loop-station in
    let a = c.args.accepted.now in
    (omega arith, mod-lt (p.total + c.at_station-total.result) (omega arith), total-next p.station a p.total _ (omega arith) (ap (λ (n : ℕ). (p.total + n) % 4294967296) c.at_station-total.ensures) ∙ p.invariant.2)

pub returns : goal.returns
returns c =
    let p = c.loop-station in
    let a = c.args.accepted.now in
    let none : p.total + ledger_total (stations_left p.station) a ≡ p.total = omega (arith, total-none p.station a (omega arith)) in
    sym (mod-eq_of_lt p.invariant.1) ∙ ap (λ (n : ℕ). n % 4294967296) (sym none) ∙ p.invariant.2

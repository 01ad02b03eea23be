-- The receipts before a place are entered; the next one is, or entering stops there. Assumes nothing.
use Rattle.std.proofs.Common.{◌≡◌, refl, ℕ, ◌+◌, ◌≤◌, true, false, ltb, length, get_or, drop, sym, ap, ◌∙◌, subst, arith, length-drop, le-ltb, lt-ltb}
use Rattle.std.specs.Prelude.{Ok, Err}
use Rattle.refusal.specs.declared.Refusal.TheVariants.{ReceiptMalformed, JobNotRising}
use Rattle.receipt.specs.Reading.{At, found_at}
use Rattle.receipt.specs.Laws.Found.{found_none}
use Rattle.bill.specs.declared.Ledger.{Ledger}
use Rattle.bill.specs.Ledger.{rises, least, few, malformed}
use Rattle.bill.specs.Steps.{ledger}
use Rattle.bill.specs.Laws.Ledger.{posted-as, Entering, entering-none, entering-stops, entering-few, entering-within, entering-further, entering-one, stops-falling}
use Rattle.bill.proofs.enter.Goals as goal
use Rattle.bill.proofs.enter.Goals.{In-Some}

-- what was found, in the definitions' terms
found : (c : In-Some) → found_at c.args.receipts.now c.loop-at.at ≡ At c.in-Some.found.receipt c.in-Some.found.end
found c = sym c.find.ensures ∙ c.in-Some.is

pub loop-at-init : goal.loop-at-init
loop-at-init c = (omega arith, entering-none _ _ _)

pub returns-in_default : goal.returns-in_default
returns-in_default c =
    let p = c.loop-at in
    let a = c.args in
    let room : least a.ends ≤ length (drop p.at a.receipts.now) = omega (arith, c.loop-at-test.true, c.least_left-least.ensures, length-drop p.at a.receipts.now) in
    entering-stops p.invariant.1 (Err ReceiptMalformed) (malformed room (found_none a.receipts.now p.at (sym c.find.ensures ∙ c.in_default.is)))

pub returns-then-receipt-at_station : goal.returns-then-receipt-at_station
returns-then-receipt-at_station c =
    let p = c.loop-at in
    let a = c.args in
    let room : least a.ends ≤ length (drop p.at a.receipts.now) = omega (arith, c.loop-at-test.true, c.least_left-least.ensures, length-drop p.at a.receipts.now) in
    let last : get_or p.jobs c.in-Some.found.receipt.station 0 ≡ c.at_station.result = sym c.at_station.ensures in
    let falls : rises (ledger p.jobs p.accepted p.refused) c.in-Some.found.receipt ≡ false = ap (λ (n : ℕ). ltb n c.in-Some.found.receipt.job) last ∙ le-ltb c.at_station.result c.in-Some.found.receipt.job c.if-receipt-at_station.true in
    entering-stops p.invariant.1 (Err JobNotRising) (stops-falling p.invariant.1 c.in-Some.found.receipt c.in-Some.found.end (found (goal.at.returns-then-receipt-at_station c).In-Some) room falls)

pub overflow_add-count : goal.overflow_add-count
overflow_add-count c = omega (arith, c.loop-at.invariant.0, entering-few c.loop-at.invariant.1)

pub loop-at-smaller : goal.loop-at-smaller
loop-at-smaller c =
    let p = c.loop-at in
    omega (arith, entering-within p.invariant.1 c.in-Some.found.receipt c.in-Some.found.end (found (goal.at.loop-at-smaller c).In-Some), entering-further p.invariant.1 c.in-Some.found.receipt c.in-Some.found.end (found (goal.at.loop-at-smaller c).In-Some))

pub loop-at-preserved : goal.loop-at-preserved
loop-at-preserved c =
    let p = c.loop-at in
    let a = c.args in
    let room : least a.ends ≤ length (drop p.at a.receipts.now) = omega (arith, c.loop-at-test.true, c.least_left-least.ensures, length-drop p.at a.receipts.now) in
    let last : get_or p.jobs c.in-Some.found.receipt.station 0 ≡ c.at_station.result = sym c.at_station.ensures in
    let rise : rises (ledger p.jobs p.accepted p.refused) c.in-Some.found.receipt ≡ true = ap (λ (n : ℕ). ltb n c.in-Some.found.receipt.job) last ∙ lt-ltb c.at_station.result c.in-Some.found.receipt.job c.if-receipt-at_station.false in (
      p.invariant.0,
      subst (λ (l : Ledger). Entering a.receipts.now a.ends (ledger a.jobs.now a.accepted.now a.refused.now) l c.in-Some.found.end (p.count + 1))
          (sym (posted-as p.jobs p.accepted p.refused _ _ _ c.in-Some.found.receipt c.in-Some.found.receipt.station refl c.store.ensures c.tally.ensures.accepted c.tally.ensures.refused))
          (entering-one p.invariant.1 c.in-Some.found.receipt c.in-Some.found.end (found (goal.at.loop-at-preserved c).In-Some) room rise),
    )

pub returns : goal.returns
returns c =
    let p = c.loop-at in
    let a = c.args in
    entering-stops p.invariant.1 (Ok record {}) (few (omega (arith, c.loop-at-test.false, c.least_left-least.ensures, length-drop p.at a.receipts.now)))

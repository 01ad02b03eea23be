-- Over the limit, refused by what was entered, or the bill of the ledger. Assumes nothing.
use Rattle.std.proofs.Common.{◌≡◌, refl, ℕ, true, List, length, sym, ap, ◌∙◌, subst, arith}
use Rattle.refusal.specs.Answer.{leaves}
use Rattle.refusal.specs.Outcome.{number_of, numbered, answered}
use Rattle.refusal.specs.Table.{refusal_number}
use Rattle.std.specs.Prelude.{Err}
use Rattle.std.proofs.lemmas.Result.{err_from_is_err_and}
use Rattle.bill.specs.declared.Ledger.{Ledger}
use Rattle.bill.specs.Ledger.{blank, Enters}
use Rattle.bill.specs.Laws.Answer.{says-refused, says-written, number-over, number-within, refusal-numbered, entered-number, ledger-text}
use Rattle.bill.proofs.bill.Goals as goal
use Rattle.bill.proofs.bill.Goals.{After-enter-entered}

-- all bytes were entered into a blank ledger
all-entered : (c : After-enter-entered) → Enters c.args.receipts.now true blank c.enter-entered.new.self c.enter-entered.result
all-entered c = subst (λ (l : Ledger). Enters c.args.receipts.now true l c.enter-entered.new.self c.enter-entered.result) c.new-ledger.ensures c.enter-entered.ensures

pub returns-then-receipts-gt-FILE_LIMIT : goal.returns-then-receipts-gt-FILE_LIMIT
returns-then-receipts-gt-FILE_LIMIT c =
    let a = c.args in
    let whole = says-refused a.receipts.now a.buffer.now 1 (sym (number-over a.receipts.now c.if-receipts-gt-FILE_LIMIT.true)) (λ e. omega arith) in
    record { answer = whole.0; buffer = whole.1.0; bill = λ n e. whole.1.1 n (ap numbered e) }

pub returns-in_err-entered : goal.returns-in_err-entered
returns-in_err-entered c =
    let a = c.args in
    let entered = all-entered (goal.at.returns-in_err-entered c).After-enter-entered in
    let was = c.in_err-entered.was in
    let number : number_of c.enter-entered.result.outcome ≡ refusal_number c.in_err-entered.field-0.0 = ap number_of was in
    let whole = says-refused a.receipts.now a.buffer.now (refusal_number c.in_err-entered.field-0.0)
    (sym number ∙ entered-number a.receipts.now _ _ entered ∙ sym (number-within a.receipts.now c.if-receipts-gt-FILE_LIMIT.false)) (refusal-numbered c.in_err-entered.field-0.0) in
    let left = err_from_is_err_and c.from_residual.result c.from_residual.ensures.1 in
    let same : numbered c.from_residual.result ≡ Err (refusal_number c.in_err-entered.field-0.0) = rw (left.1, left.2) refl in
    record { answer = same ∙ whole.0; buffer = whole.1.0; bill = λ n e. whole.1.1 n (sym same ∙ ap numbered e) }

pub returns : goal.returns
returns c =
    let a = c.args in
    let entered = all-entered (goal.at.returns c).After-enter-entered in
    let small = c.if-receipts-gt-FILE_LIMIT.false in
    let none = ap number_of c.in_ok-entered.was in
    let text = ledger-text a.receipts.now _ _ entered small none in
    let whole = says-written a.receipts.now a.buffer.now _ _ (number-within a.receipts.now small ∙ sym (entered-number a.receipts.now _ _ entered) ∙ none)
    (c.write.ensures.answer ∙ ap (λ (l : List ℕ). answered (length l) (length a.buffer.now)) text) (c.write.ensures.buffer ∙ ap (λ (l : List ℕ). leaves l a.buffer.now) text) in
    record { answer = whole.0; buffer = whole.1.0; bill = λ n e. whole.1.1 n (ap numbered e) }

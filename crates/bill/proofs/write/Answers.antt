-- The size is that of the text, and the text is put where there is room for it. Assumes nothing.
use Rattle.std.proofs.Common.{◌≡◌, ℕ, ◌+◌, ◌++◌, length, sym, ap, arith}
use Rattle.text.specs.Decimal.{decimal}
use Rattle.text.specs.Laws.Decimal.{decimal-few}
use Rattle.text.specs.Laws.Put.{put-more, put_as}
use Rattle.receipt.specs.Receipt.{named_line}
use Rattle.bill.specs.Run.{stations}
use Rattle.bill.specs.Bill.{entries_text, bill_text}
use Rattle.bill.specs.Ledger.{ledger_entries, ledger_bill}
use Rattle.bill.specs.Laws.Entries.{entries-few, bill-length, write-short, write-all}
use Rattle.bill.proofs.write.Goals as goal
use Rattle.bill.proofs.write.Goals.{After-digit_count}

-- the size
sized : (c : After-digit_count) → c.entries_size.result + 7 + c.digit_count.result ≡ length (bill_text (ledger_bill c.args.accepted.now c.args.refused.now))
sized c =
    let a = c.args in
    omega (arith, c.entries_size.ensures, c.digit_count.ensures, ap (λ (n : ℕ). length (decimal n)) c.total_of-total.ensures, bill-length a.accepted.now a.refused.now)

pub overflow_add-size : goal.overflow_add-size
overflow_add-size c = let a = c.args in omega (arith, c.entries_size.ensures, entries-few a.accepted.now a.refused.now)

pub overflow_add-size-2 : goal.overflow_add-size-2
overflow_add-size-2 c =
    let a = c.args in
    omega (arith, c.entries_size.ensures, entries-few a.accepted.now a.refused.now, c.digit_count.ensures, decimal-few c.total_of-total.result)

pub returns-then-buffer-size : goal.returns-then-buffer-size
returns-then-buffer-size c =
    let a = c.args in
    let whole = write-short a.accepted.now a.refused.now a.buffer.now _ (sized (goal.at.returns-then-buffer-size c).After-digit_count) c.if-buffer-size.true in
    record { answer = whole.0; buffer = whole.1 }

pub returns : goal.returns
unfolding bill_text
returns c =
    let a = c.args in
    let text : bill_text (ledger_bill a.accepted.now a.refused.now) ≡ entries_text (ledger_entries stations a.accepted.now a.refused.now) ++ named_line "total" c.total_of-total.result =
    ap (λ (n : ℕ). entries_text (ledger_entries stations a.accepted.now a.refused.now) ++ named_line "total" n) (sym c.total_of-total.ensures) in
    let whole = write-all a.accepted.now a.refused.now a.buffer.now _ (sized (goal.at.returns c).After-digit_count) c.if-buffer-size.false (put_as (put-more c.put_entries-end.ensures c.put_line.ensures) text) in
    record { answer = whole.0; buffer = whole.1 }

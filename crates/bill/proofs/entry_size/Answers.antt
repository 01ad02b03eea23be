-- Without jobs there is no entry; else it has three lines. Assumes nothing.
use Rattle.std.proofs.Common.{sym, ◌∙◌, arith}
use Rattle.text.specs.Laws.Decimal.{decimal-few}
use Rattle.bill.specs.Laws.Entries.{entry_length}
use Rattle.bill.proofs.entry_size.Goals as goal

pub overflow_add-result : goal.overflow_add-result
overflow_add-result c = omega (arith, c.digit_count.ensures, decimal-few c.args.station)

pub overflow_add-result-2 : goal.overflow_add-result-2
overflow_add-result-2 c = omega (arith, c.digit_count.ensures, c.digit_count-2.ensures, decimal-few c.args.station, decimal-few c.args.accepted)

pub overflow_add-result-3 : goal.overflow_add-result-3
overflow_add-result-3 c =
    let a = c.args in
    omega (arith, c.digit_count.ensures, c.digit_count-2.ensures, c.digit_count-3.ensures, decimal-few a.station, decimal-few a.accepted, decimal-few a.refused)

pub returns : goal.returns
returns c =
    let a = c.args in
    rw (sym c.has_none.ensures ∙ c.if-has_none.false)
    (omega (arith, c.digit_count.ensures, c.digit_count-2.ensures, c.digit_count-3.ensures, entry_length a.station a.accepted a.refused))

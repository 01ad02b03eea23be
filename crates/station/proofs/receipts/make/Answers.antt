-- The receipt lies within the buffer, and the verdict that is read from it is the file's.
use Rattle.std.proofs.Common.{arith, sym, ap, ◌∙◌, length-take-le}
use Rattle.refusal.specs.Outcome.{numbered}
use Rattle.numbers.specs.Laws.BigEndian.{bytes-of}
use Rattle.receipt.specs.Laws.File.{answered-fits}
use Rattle.station.proofs.Laws.Receipts.{verdict-read}
use Rattle.station.proofs.receipts.make.Goals as goal

pub slice_bounds-verdict_in-end : goal.slice_bounds-verdict_in-end
slice_bounds-verdict_in-end c =
    let h = answered-fits _ _ _ _ _ (sym c.write.ensures.answer ∙ ap numbered c.in_ok-bytes.was) in
    omega (arith, h, c.write.auto.buffer)

pub slice_bounds-verdict_in-end-2 : goal.slice_bounds-verdict_in-end-2
slice_bounds-verdict_in-end-2 c =
    let h = answered-fits _ _ _ _ _ (sym c.write.ensures.answer ∙ ap numbered c.in_ok-bytes.was) in
    sym (length-take-le _ c.write.new.buffer (omega (arith, h, c.write.auto.buffer)))

pub returns : goal.returns
returns c =
    let bytes = bytes-of c.args.file.now (λ i. omega (arith, c.type_inv.file i)) in
    let e = sym c.write.ensures.answer ∙ ap numbered c.in_ok-bytes.was in
    let made = c.write.ensures.receipt _ c.in_ok-bytes.was in
    record { inside = let h = answered-fits _ _ _ _ _ e in omega (arith, h, c.write.auto.buffer); receipt = made; judged = c.verdict_in.ensures ∙ verdict-read bytes made }

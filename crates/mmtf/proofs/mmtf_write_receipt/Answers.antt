-- Each case of writing is a case of the call; a refusal is not 0. Assumes nothing.
use mathlib.Core.Path.{sym, ap, ◌∙◌}
use Rattle.std.specs.Prelude.{Result, ℕ}
use Rattle.refusal.specs.Outcome.{answer_number, answer_count, numbered}
use Rattle.receipt.specs.Laws.File.{answered-number}
use Rattle.mmtf.proofs.mmtf_write_receipt.Goals as goal

pub returns-in-Err : goal.returns-in-Err
returns-in-Err c =
    let a = c.args in
    let e = sym (ap numbered c.in-Err.is) ∙ c.write.ensures.answer in
    rw c.number.ensures (record { answer = ap answer_number e; written = ap (λ (o : Result ℕ ℕ). answer_count o a.written.now) e; buffer = c.write.ensures.buffer; receipt = λ z. absurd (answered-number _ _ _ _ _ e z) })

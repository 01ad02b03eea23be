-- The cells are checked, the runs are counted, and the loop puts them: eight bytes each.
use Rattle.std.proofs.Common.{◌≡◌, ◌+◌, ◌*◌, ◌<◌, ◌≤◌, length, sym, ap, ◌∙◌, arith, leb-false, leb-true}
use mathlib.Core.Bool.{and-true}
use Rattle.steps.specs.declared.Size.TheVariants.{Four}
use Rattle.steps.specs.declared.Form.TheVariants.{Runs}
use Rattle.steps.specs.Delta.{deltas_if}
use Rattle.steps.specs.RunLength.{runs_of}
use Rattle.steps.proofs.Laws.NumbersBack.{length-bytes_for}
use Rattle.steps.specs.Payload.{all_in}
use Rattle.columns.specs.Encode.{payload_of}
use Rattle.writers.specs.Placed.{over}
use Rattle.writers.specs.Laws.Placed.{answer-refused, answer-over, answer-in}
use Rattle.writers.specs.Laws.Runs.{runs-payload}
use Rattle.writers.proofs.runs.place_numbers.Lts as lts
use Rattle.writers.proofs.runs.place_numbers.Reads as reads
use Rattle.writers.proofs.runs.place_numbers.Tie as tie
use Rattle.writers.proofs.runs.place_numbers.Goals as goal

counted : (c : lts.After-count_numbers tie.the-claims reads.Pre reads.Post tie.handed_clauses) → length (payload_of (Runs c.args.range) c.args.delta c.args.values.now) ≡ c.count_numbers-n.result * 8
counted c =
    let a = c.args in
    let e = ap length (runs-payload a.range a.delta a.values.now) ∙ length-bytes_for Four (runs_of (deltas_if a.delta a.values.now)) in
    let n = c.count_numbers-n.ensures in
    omega arith

pub returns-then-not-all_in : goal.returns-then-not-all_in
returns-then-not-all_in c =
    let a = c.args in
    let whole = answer-refused (payload_of (Runs a.range) a.delta a.values.now) a.buffer.now a.at (and-true (all_in a.range a.values.now) ∙ sym c.all_in.ensures ∙ c.if-not-all_in.true) in
    record { answer = whole.0; buffer = whole.1 }

pub returns-then-not-runs_fit : goal.returns-then-not-runs_fit
returns-then-not-runs_fit c =
    let a = c.args in
    let k = counted c.before.before.before in
    let h : length a.buffer.now < a.at + c.count_numbers-n.result * 8 = leb-false _ _ (sym c.runs_fit.ensures ∙ c.if-not-runs_fit.true) in
    let whole = answer-over (payload_of (Runs a.range) a.delta a.values.now) a.buffer.now a.at (and-true (all_in a.range a.values.now) ∙ sym c.all_in.ensures ∙ c.if-not-all_in.false) (omega arith) in
    record { answer = whole.0; buffer = whole.1 }

pub write_numbers-requires : goal.write_numbers-requires
write_numbers-requires c =
    let a = c.args in
    let k = counted c.before.before.before in
    let e = ap length (runs-payload a.range a.delta a.values.now) in
    let h : a.at + c.count_numbers-n.result * 8 ≤ length a.buffer.now = leb-true _ _ (sym c.runs_fit.ensures ∙ c.if-not-runs_fit.false) in
    omega arith

pub returns : goal.returns
returns c =
    let a = c.args in
    let k = counted c.before.before.before.before.before.before.before in
    let h : a.at + c.count_numbers-n.result * 8 ≤ length a.buffer.now = leb-true _ _ (sym c.runs_fit.ensures ∙ c.if-not-runs_fit.false) in
    let whole = answer-in (payload_of (Runs a.range) a.delta a.values.now) a.buffer.now a.at (and-true (all_in a.range a.values.now) ∙ sym c.all_in.ensures ∙ c.if-not-all_in.false) (omega arith) (omega arith) (c.write_numbers.ensures ∙ ap (over a.buffer.now a.at) (sym (runs-payload a.range a.delta a.values.now))) in
    record { answer = whole.0; buffer = whole.1 }

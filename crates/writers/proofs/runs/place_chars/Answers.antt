-- The cells are checked, the runs are counted, and the loop puts them: eight bytes each.
use Rattle.std.proofs.Common.{◌≡◌, ◌+◌, ◌*◌, ◌<◌, ◌≤◌, false, map, length, pos, sym, ap, ◌∙◌, arith, leb-false, leb-true}
use mathlib.Core.Bool.{and-true}
use Rattle.steps.specs.declared.Size.TheVariants.{Four}
use Rattle.steps.specs.declared.Range.TheVariants.{Ascii}
use Rattle.steps.specs.declared.Form.TheVariants.{Runs}
use Rattle.steps.specs.RunLength.{runs_of}
use Rattle.steps.proofs.Laws.NumbersBack.{length-bytes_for}
use Rattle.steps.specs.Payload.{all_in}
use Rattle.columns.specs.Encode.{payload_of}
use Rattle.writers.specs.Placed.{over}
use Rattle.writers.specs.Laws.Placed.{answer-refused, answer-over, answer-in}
use Rattle.writers.specs.Laws.Runs.{chars-payload}
use Rattle.writers.proofs.runs.place_chars.Lts as lts
use Rattle.writers.proofs.runs.place_chars.Reads as reads
use Rattle.writers.proofs.runs.place_chars.Tie as tie
use Rattle.writers.proofs.runs.place_chars.Goals as goal

counted : (c : lts.After-count_chars tie.the-claims reads.Pre reads.Post tie.handed_clauses) → length (payload_of (Runs Ascii) false (map pos c.args.values.now)) ≡ c.count_chars-n.result * 8
counted c =
    let a = c.args in
    let e = ap length (chars-payload (map pos a.values.now)) ∙ length-bytes_for Four (runs_of (map pos a.values.now)) in
    let n = c.count_chars-n.ensures in
    omega arith

pub returns-then-not-all_ascii : goal.returns-then-not-all_ascii
returns-then-not-all_ascii c =
    let a = c.args in
    let whole = answer-refused (payload_of (Runs Ascii) false (map pos a.values.now)) a.buffer.now a.at (and-true (all_in Ascii (map pos a.values.now)) ∙ sym c.all_ascii.ensures ∙ c.if-not-all_ascii.true) in
    record { answer = whole.0; buffer = whole.1 }

pub returns-then-not-runs_fit : goal.returns-then-not-runs_fit
returns-then-not-runs_fit c =
    let a = c.args in
    let k = counted c.before.before.before in
    let h : length a.buffer.now < a.at + c.count_chars-n.result * 8 = leb-false _ _ (sym c.runs_fit.ensures ∙ c.if-not-runs_fit.true) in
    let whole = answer-over (payload_of (Runs Ascii) false (map pos a.values.now)) a.buffer.now a.at (and-true (all_in Ascii (map pos a.values.now)) ∙ sym c.all_ascii.ensures ∙ c.if-not-all_ascii.false) (omega arith) in
    record { answer = whole.0; buffer = whole.1 }

pub write_chars-requires : goal.write_chars-requires
write_chars-requires c =
    let a = c.args in
    let k = counted c.before.before.before.before in
    let e = ap length (chars-payload (map pos a.values.now)) in
    let h : a.at + c.count_chars-n.result * 8 ≤ length a.buffer.now = leb-true _ _ (sym c.runs_fit.ensures ∙ c.if-not-runs_fit.false) in
    omega arith

pub returns : goal.returns
returns c =
    let a = c.args in
    let k = counted c.before.before.before.before.before.before.before in
    let h : a.at + c.count_chars-n.result * 8 ≤ length a.buffer.now = leb-true _ _ (sym c.runs_fit.ensures ∙ c.if-not-runs_fit.false) in
    let whole = answer-in (payload_of (Runs Ascii) false (map pos a.values.now)) a.buffer.now a.at (and-true (all_in Ascii (map pos a.values.now)) ∙ sym c.all_ascii.ensures ∙ c.if-not-all_ascii.false) (omega arith) (omega arith) (c.write_chars.ensures ∙ ap (over a.buffer.now a.at) (sym (chars-payload (map pos a.values.now)))) in
    record { answer = whole.0; buffer = whole.1 }

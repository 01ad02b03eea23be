-- The bytes are counted up to the room, and put where they fit.
use Rattle.std.proofs.Common.{◌≡◌, ◌-◌, ◌<◌, length, sym, ap, ◌∙◌, arith}
use mathlib.Core.Bool.{and-true}
use Rattle.steps.specs.Payload.{allowed, all_in}
use Rattle.steps.specs.declared.Range.TheVariants.{Int32}
use Rattle.steps.specs.declared.Form.TheVariants.{Packed}
use Rattle.steps.specs.Numbers.{bytes_for}
use Rattle.steps.specs.Delta.{deltas_if}
use Rattle.steps.specs.Packing.{pack}
use Rattle.columns.specs.Encode.{payload_of}
use Rattle.writers.specs.Placed.{over}
use Rattle.writers.specs.Laws.Placed.{answer-refused, answer-over, answer-in}
use Rattle.writers.specs.Bits.{up_to}
use Rattle.writers.specs.Laws.Packed.{packed-payload, up_to-above, up_to-within}
use Rattle.writers.proofs.packed.place_numbers.Lts as lts
use Rattle.writers.proofs.packed.place_numbers.Reads as reads
use Rattle.writers.proofs.packed.place_numbers.Tie as tie
use Rattle.writers.proofs.packed.place_numbers.Goals as goal

allows : (c : lts.After-all_in tie.the-claims reads.Pre reads.Post tie.handed_clauses) → allowed (Packed c.args.size) 0 c.args.values.now ≡ c.all_in.result
allows c = and-true (all_in Int32 c.args.values.now) ∙ sym c.all_in.ensures

pub returns-then-not-all_in : goal.returns-then-not-all_in
returns-then-not-all_in c =
    let a = c.args in
    let whole = answer-refused (payload_of (Packed a.size) a.delta a.values.now) a.buffer.now a.start (allows c.before.before ∙ c.if-not-all_in.true) in
    record { answer = whole.0; buffer = whole.1 }

pub returns-then-buffer-start : goal.returns-then-buffer-start
returns-then-buffer-start c =
    let a = c.args in
    let whole = answer-over (payload_of (Packed a.size) a.delta a.values.now) a.buffer.now a.start (allows c.before.before.before ∙ c.if-not-all_in.false) (omega arith) in
    record { answer = whole.0; buffer = whole.1 }

pub returns-then-room-n : goal.returns-then-room-n
returns-then-room-n c =
    let a = c.args in
    let r = length a.buffer.now - a.start in
    let e = c.count_numbers-n.ensures in
    let h : r < length (bytes_for a.size (pack a.size (deltas_if a.delta a.values.now))) = up_to-above r _ (omega arith) in
    let whole = answer-over (payload_of (Packed a.size) a.delta a.values.now) a.buffer.now a.start (allows c.before.before.before.before.before ∙ c.if-not-all_in.false) (omega (arith, ap length (packed-payload a.size a.delta a.values.now))) in
    record { answer = whole.0; buffer = whole.1 }

pub write_numbers-requires : goal.write_numbers-requires
write_numbers-requires c =
    let a = c.args in
    let r = length a.buffer.now - a.start in
    let e = c.count_numbers-n.ensures in
    let h : up_to r (length (bytes_for a.size (pack a.size (deltas_if a.delta a.values.now)))) ≡ length (bytes_for a.size (pack a.size (deltas_if a.delta a.values.now))) = up_to-within r _ (omega arith) in
    omega arith

pub returns : goal.returns
returns c =
    let a = c.args in
    let r = length a.buffer.now - a.start in
    let e = c.count_numbers-n.ensures in
    let h : up_to r (length (bytes_for a.size (pack a.size (deltas_if a.delta a.values.now)))) ≡ length (bytes_for a.size (pack a.size (deltas_if a.delta a.values.now))) = up_to-within r _ (omega arith) in
    let whole = answer-in (payload_of (Packed a.size) a.delta a.values.now) a.buffer.now a.start (allows c.before.before.before.before.before.before.before.before.before ∙ c.if-not-all_in.false) (omega (arith, ap length (packed-payload a.size a.delta a.values.now))) (omega (arith, ap length (packed-payload a.size a.delta a.values.now))) (c.write_numbers.ensures ∙ ap (over a.buffer.now a.start) (sym (packed-payload a.size a.delta a.values.now))) in
    record { answer = whole.0; buffer = whole.1 }

-- The values are all of the range, the bytes are counted by their number, and the loop puts them.
use Rattle.std.proofs.Common.{◌≡◌, ℕ, ◌+◌, ◌*◌, ◌<◌, ◌≤◌, false, length, sym, ap, ◌∙◌, arith, leb-false, leb-true}
use mathlib.Core.Bool.{and-true}
use Rattle.steps.specs.declared.Range.{Range}
use Rattle.steps.specs.declared.Form.TheVariants.{Plain}
use Rattle.steps.specs.Payload.{all_in, allowed, range_of}
use Rattle.steps.proofs.Laws.NumbersBack.{length-bytes_for}
use Rattle.columns.specs.Encode.{payload_of}
use Rattle.writers.specs.Placed.{over}
use Rattle.writers.specs.Laws.Placed.{answer-refused, answer-over, answer-in}
use Rattle.writers.specs.Laws.Plain.{plain-payload}
use Rattle.writers.proofs.plain.place_sized.Lts as lts
use Rattle.writers.proofs.plain.place_sized.Reads as reads
use Rattle.writers.proofs.plain.place_sized.Tie as tie
use Rattle.writers.proofs.plain.place_sized.Goals as goal

asked : (c : lts.After-all_in tie.the-claims reads.Pre reads.Post tie.handed_clauses) → allowed (Plain c.args.size) 0 c.args.values.now ≡ c.all_in.result
asked c =
    let a = c.args in
    and-true (all_in (range_of (Plain a.size)) a.values.now) ∙ ap (λ (r : Range). all_in r a.values.now) (sym c.range_of.ensures) ∙ sym c.all_in.ensures

counted : (c : lts.After-bytes tie.the-claims reads.Pre reads.Post tie.handed_clauses) → length (payload_of (Plain c.args.size) false c.args.values.now) ≡ length c.args.values.now * c.bytes.result
counted c =
    let a = c.args in
    ap length (plain-payload a.size a.values.now) ∙ length-bytes_for a.size a.values.now ∙ ap (λ (k : ℕ). length a.values.now * k) (sym c.bytes.ensures)

pub returns-then-not-all_in : goal.returns-then-not-all_in
returns-then-not-all_in c =
    let a = c.args in
    let whole = answer-refused (payload_of (Plain a.size) false a.values.now) a.buffer.now a.start (asked c.before.before ∙ c.if-not-all_in.true) in
    record { answer = whole.0; buffer = whole.1 }

pub returns-then-not-fits : goal.returns-then-not-fits
returns-then-not-fits c =
    let a = c.args in
    let h : length a.buffer.now < a.start + length a.values.now * c.bytes.result = leb-false _ _ (sym c.fits.ensures ∙ c.if-not-fits.true) in
    let whole = answer-over (payload_of (Plain a.size) false a.values.now) a.buffer.now a.start (asked c.before.before.before.before.before ∙ c.if-not-all_in.false) (omega (arith, counted c.before.before.before)) in
    record { answer = whole.0; buffer = whole.1 }

pub write_numbers-requires : goal.write_numbers-requires
write_numbers-requires c =
    let a = c.args in
    let h : a.start + length a.values.now * c.bytes.result ≤ length a.buffer.now = leb-true _ _ (sym c.fits.ensures ∙ c.if-not-fits.false) in
    (sym (and-true (all_in (range_of (Plain a.size)) a.values.now)) ∙ asked c.before.before.before.before.before ∙ c.if-not-all_in.false, omega (arith, counted c.before.before.before, ap length (plain-payload a.size a.values.now)))

pub returns : goal.returns
returns c =
    let a = c.args in
    let h : a.start + length a.values.now * c.bytes.result ≤ length a.buffer.now = leb-true _ _ (sym c.fits.ensures ∙ c.if-not-fits.false) in
    let whole = answer-in (payload_of (Plain a.size) false a.values.now) a.buffer.now a.start (asked c.before.before.before.before.before.before.before.before.before ∙ c.if-not-all_in.false) (omega (arith, counted c.before.before.before.before.before.before.before)) (sym (counted c.before.before.before.before.before.before.before)) (c.write_numbers.ensures ∙ ap (over a.buffer.now a.start) (sym (plain-payload a.size a.values.now))) in
    record { answer = whole.0; buffer = whole.1 }

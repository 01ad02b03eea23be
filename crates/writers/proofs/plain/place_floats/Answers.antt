-- Four bytes for each float, put by the loop.
use Rattle.std.proofs.Common.{◌+◌, ◌*◌, ◌<◌, ◌≤◌, false, map, length, sym, ap, ◌∙◌, arith, w32, to_z, leb-false, leb-true}
use lib.ListN.{length-map}
use Rattle.steps.specs.declared.Size.TheVariants.{Four}
use Rattle.steps.specs.declared.Form.TheVariants.{Plain}
use Rattle.steps.proofs.Laws.NumbersBack.{length-bytes_for}
use Rattle.columns.specs.Encode.{payload_of}
use Rattle.writers.specs.Placed.{over}
use Rattle.writers.specs.Laws.Placed.{answer-over, answer-in}
use Rattle.writers.specs.Laws.Plain.{plain-payload, floats-allowed}
use Rattle.writers.proofs.plain.place_floats.Goals as goal

pub returns-then-not-fits : goal.returns-then-not-fits
returns-then-not-fits c =
    let a = c.args in
    let k = ap length (plain-payload Four (map (to_z w32) a.bits.now)) ∙ length-bytes_for Four (map (to_z w32) a.bits.now) in
    let m = length-map a.bits.now (to_z w32) in
    let h : length a.buffer.now < a.at + length a.bits.now * 4 = leb-false _ _ (sym c.fits.ensures ∙ c.if-not-fits.true) in
    let whole = answer-over (payload_of (Plain Four) false (map (to_z w32) a.bits.now)) a.buffer.now a.at (floats-allowed a.bits.now) (omega arith) in
    record { answer = whole.0; buffer = whole.1 }

pub write_floats-requires : goal.write_floats-requires
write_floats-requires c =
    let a = c.args in
    let k = length-bytes_for Four (map (to_z w32) a.bits.now) in
    let m = length-map a.bits.now (to_z w32) in
    let h : a.at + length a.bits.now * 4 ≤ length a.buffer.now = leb-true _ _ (sym c.fits.ensures ∙ c.if-not-fits.false) in
    omega arith

pub returns : goal.returns
returns c =
    let a = c.args in
    let k = ap length (plain-payload Four (map (to_z w32) a.bits.now)) ∙ length-bytes_for Four (map (to_z w32) a.bits.now) in
    let m = length-map a.bits.now (to_z w32) in
    let h : a.at + length a.bits.now * 4 ≤ length a.buffer.now = leb-true _ _ (sym c.fits.ensures ∙ c.if-not-fits.false) in
    let whole = answer-in (payload_of (Plain Four) false (map (to_z w32) a.bits.now)) a.buffer.now a.at (floats-allowed a.bits.now) (omega arith) (omega arith) (c.write_floats.ensures ∙ ap (over a.buffer.now a.at) (sym (plain-payload Four (map (to_z w32) a.bits.now)))) in
    record { answer = whole.0; buffer = whole.1 }

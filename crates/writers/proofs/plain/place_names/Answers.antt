-- The names are checked, their bytes are counted by their number, and the loop puts them.
use Rattle.std.proofs.Common.{◌+◌, ◌<◌, ◌≤◌, false, map, length, pos, sym, ap, ◌∙◌, arith, leb-false, leb-true}
use lib.ListN.{length-map}
use Rattle.steps.specs.declared.Size.TheVariants.{One}
use Rattle.steps.specs.declared.Form.TheVariants.{Names}
use Rattle.steps.proofs.Laws.NumbersBack.{length-bytes_for}
use Rattle.columns.specs.Encode.{payload_of}
use Rattle.writers.specs.Placed.{over}
use Rattle.writers.specs.Laws.Placed.{answer-refused, answer-over, answer-in}
use Rattle.writers.specs.Laws.Plain.{names-payload}
use Rattle.writers.proofs.plain.place_names.Goals as goal

pub returns-then-not-are_names : goal.returns-then-not-are_names
returns-then-not-are_names c =
    let a = c.args in
    let whole = answer-refused (payload_of Names false (map pos a.names.now)) a.buffer.now a.at (sym c.are_names.ensures ∙ c.if-not-are_names.true) in
    record { answer = whole.0; buffer = whole.1 }

pub returns-then-not-fits : goal.returns-then-not-fits
returns-then-not-fits c =
    let a = c.args in
    let k = ap length (names-payload (map pos a.names.now)) ∙ length-bytes_for One (map pos a.names.now) in
    let m = length-map a.names.now pos in
    let h : length a.buffer.now < a.at + length a.names.now = leb-false _ _ (sym c.fits.ensures ∙ c.if-not-fits.true) in
    let whole = answer-over (payload_of Names false (map pos a.names.now)) a.buffer.now a.at (sym c.are_names.ensures ∙ c.if-not-are_names.false) (omega arith) in
    record { answer = whole.0; buffer = whole.1 }

pub write_names-requires : goal.write_names-requires
write_names-requires c =
    let a = c.args in
    let k = length-bytes_for One (map pos a.names.now) in
    let m = length-map a.names.now pos in
    let h : a.at + length a.names.now ≤ length a.buffer.now = leb-true _ _ (sym c.fits.ensures ∙ c.if-not-fits.false) in
    omega arith

pub returns : goal.returns
returns c =
    let a = c.args in
    let k = ap length (names-payload (map pos a.names.now)) ∙ length-bytes_for One (map pos a.names.now) in
    let m = length-map a.names.now pos in
    let h : a.at + length a.names.now ≤ length a.buffer.now = leb-true _ _ (sym c.fits.ensures ∙ c.if-not-fits.false) in
    let whole = answer-in (payload_of Names false (map pos a.names.now)) a.buffer.now a.at (sym c.are_names.ensures ∙ c.if-not-are_names.false) (omega arith) (omega arith) (c.write_names.ensures ∙ ap (over a.buffer.now a.at) (sym (names-payload (map pos a.names.now)))) in
    record { answer = whole.0; buffer = whole.1 }

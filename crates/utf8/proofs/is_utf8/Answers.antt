-- `utf8::is_utf8` meets its contract. The loop's invariant: the bytes are UTF-8 exactly when those from `at` on are; the measure is what is left.
-- Assumes nothing.
use mathlib.Core.Path.{sym, ap, ◌∙◌}
use lib.ListN.{drop_of_length-le}
use Rattle.utf8.specs.Laws.Utf8.{decides}
use Rattle.utf8.specs.Check.{due, is_utf8}
use Rattle.utf8.specs.Step.{onward}
use Rattle.utf8.proofs.is_utf8.Goals as goal

pub returns-in_default : goal.returns-in_default
returns-in_default c =
    let l = c in
    let e = l.loop-at.invariant.1 ∙ c.advance.ensures.bytes_value ∙ ap (onward 0 l.args.bytes.now) c.in_default.is in
    record { value = sym e; variant = decides (sym e) }

pub returns : goal.returns
unfolding due
returns c =
    let l = c in
    let e = l.loop-at.invariant.1 ∙ ap is_utf8 (drop_of_length-le l.args.bytes.now c.loop-at-test.false) in
    record { value = sym e; variant = decides (sym e) }

-- `utf8::blocks` meets its contract: a block whose bits are below 80 is a run of characters of one byte each, so the bytes from its end are
-- UTF-8 exactly when those from its start are. Assumes nothing.
use mathlib.Core.Path.{◌∙◌}
use native.Mathlib.Omega.{arith}
use Rattle.utf8.specs.Laws.Check.{ascii_run}
use Rattle.utf8.proofs.blocks.Goals as goal

pub loop-at-preserved : goal.loop-at-preserved
loop-at-preserved c =
    let l = c in
    let a = l.args in (
      omega arith,
      omega arith,
      l.loop-at.invariant.2 ∙ ascii_run a.bytes.now l.loop-at.at a.width (omega arith) (c.bits.ensures c.if-bits-ge128.false),
    )

-- Each arm puts as many bytes as its size says.
use Rattle.std.proofs.Common.{◌∙◌}
use Rattle.writers.specs.Laws.Placed.{over-written}
use Rattle.writers.proofs.packed.put.Goals as goal

pub returns-in-Four : goal.returns-in-Four
returns-in-Four c =
    let a = c.args in
    rw c.in-Four.is (c.write_u32.ensures ∙ over-written a.buffer.now a.at 4 a.bits (rw c.in-Four.is at c.requires))

-- The place in the table is that of the definition (`hint-is`).
use mathlib.Core.Path.{◌∙◌}
use Rattle.fields.specs.Laws.Numbers.{hint-is}
use Rattle.fields.proofs.hint.Goals as goal

pub returns : goal.returns
returns c =
    let a = c.args in
    c.cell.ensures.is ∙ hint-is a.file.now a.a a.m a.first c.requires.1.0 c.byte_of-early.ensures.is c.byte_of-late.ensures.is

-- By its lead byte alone, or by its head.
use Rattle.fields.proofs.plain_at.Goals as goal

pub returns-then-end-gt0 : goal.returns-then-end-gt0
returns-then-end-gt0 c = c.quick_end-end.ensures c.if-end-gt0.true

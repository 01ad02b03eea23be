-- The quick look's end is the value's, and so is the leaf's.
use Rattle.std.proofs.Common.{sym, ap, ◌∙◌}
use Rattle.std.specs.Prelude.{Ok}
use Rattle.refusal.specs.Outcome.{numbered}
use Rattle.messagepack.proofs.Laws.Quick.{leaf-quick}
use Rattle.messagepack.proofs.leaf_end.Goals as goal

pub returns-in-Ok-End : goal.returns-in-Ok-End
returns-in-Ok-End c = leaf-quick _ _ (sym c.leaf_at.ensures ∙ ap numbered c.in-Ok-End.is ∙ ap Ok c.in-Ok-End.field-0-is)

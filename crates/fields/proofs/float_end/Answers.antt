-- The lead byte is a float's, and its four bytes are there.
use native.Mathlib.Omega.{arith}
use Rattle.fields.specs.Laws.Steps.{float_says}
use Rattle.fields.proofs.float_end.Goals as goal

pub returns : goal.returns
returns c = λ h. float_says _ _ c.requires c.if-file-at.false (omega arith)

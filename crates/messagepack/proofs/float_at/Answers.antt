-- The float ends five bytes on, if they are there.
use Rattle.std.proofs.Common.{arith}
use Rattle.messagepack.specs.Quick.{other}
use Rattle.messagepack.proofs.Laws.Quick.{float-ends}
use Rattle.messagepack.proofs.float_at.Goals as goal

pub returns-then-file-at-lt5 : goal.returns-then-file-at-lt5
returns-then-file-at-lt5 c = other

pub returns : goal.returns
returns c = float-ends _ _ c.requires.0 c.requires.1 (omega arith)

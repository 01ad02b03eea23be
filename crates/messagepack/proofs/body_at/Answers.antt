-- The two tests are that the bytes are inside.
use Rattle.std.proofs.Common.{sym, arith}
use Rattle.messagepack.proofs.Laws.Walk.{body-in, body-out}
use Rattle.messagepack.proofs.body_at.Goals as goal
use Rattle.messagepack.proofs.body_at.Goals.{then-file-p-via-then-file-p, then-file-p-via-else-file-p+then-file-p-2}

pub returns-then-file-p : goal.returns-then-file-p
returns-then-file-p c =
    elim c.then-file-p.branch [ then-file-p-via-then-file-p w ↦ sym (body-out _ _ _ (omega arith)) | then-file-p-via-else-file-p+then-file-p-2 w ↦ sym (body-out _ _ _ (omega arith)) ]

pub returns : goal.returns
returns c = sym (body-in _ _ _ (omega arith))

-- What is left from here on decides, at every depth.
use Rattle.messagepack.proofs.Laws.Quick.{run-next}
use Rattle.messagepack.proofs.leaves.Goals as goal

pub loop-left-preserved : goal.loop-left-preserved
loop-left-preserved c = run-next c.loop-left.invariant c.loop-left-test.true c.leaf_end.ensures c.in-Some.is

-- What is left from here on decides, at every depth.
use Rattle.messagepack.specs.Quick.{RunSays}
use Rattle.messagepack.proofs.leaves.Given as goal

abbrev pub invariant-loop-left : goal.invariant-loop-left
invariant-loop-left l = RunSays l.file l.at l.n l.p l.left

abbrev pub decreases-loop-left : goal.decreases-loop-left
decreases-loop-left l = l.left

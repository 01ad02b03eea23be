-- What is left of the values gives the rest of the sum; a file has no more values than bytes, so that the sum has room.
use Prim.Native.Nat.{◌-◌, ◌*◌, ◌≤◌}
use Rattle.messagepack.specs.Limits.{file_limit}
use Rattle.values.specs.Laws.Integers.{Summing}
use Rattle.values.specs.Walked.{Short, WalkedAll}
use Rattle.values.proofs.lists.sum_from.Given as goal

abbrev pub invariant-loop-i : goal.invariant-loop-i
invariant-loop-i l = ((l.n ≤ file_limit) × (l.total ≤ l._i * 4294967296)) × (Short l.file → WalkedAll l.file l.n l.at (λ ds e. Summing l.file ds l.p (l.n - l._i) l.total e))

-- Each turn adds one cell (`begun_more`).
use Rattle.std.proofs.Common.{◌-◌, ◌≤◌}
use Rattle.writers.specs.Bits.{BegunIn}
use Rattle.writers.proofs.runs.begun_in.Given as goal

abbrev pub invariant-loop-k : goal.invariant-loop-k
invariant-loop-k l = (l.k ≤ l.count) × BegunIn l.delta l.values l.from l.k l.n

abbrev pub decreases-loop-k : goal.decreases-loop-k
decreases-loop-k l = l.count - l.k

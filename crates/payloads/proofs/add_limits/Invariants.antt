-- Each turn adds one number: 1 if it is a limit.
use Rattle.std.proofs.Common.{◌≡◌, ◌≤◌}
use Rattle.payloads.specs.Limits.{packed_size, limits_in}
use Rattle.payloads.proofs.add_limits.Given as goal

abbrev pub invariant-loop-k : goal.invariant-loop-k
invariant-loop-k l = (l.k ≤ l.count) × (l.limits ≡ limits_in (packed_size l.two) l.payload l.at l.k)

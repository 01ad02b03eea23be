-- Each block adds the limits in it; what is left behind the last block is added at the end.
use Rattle.std.proofs.Common.{◌≡◌, ◌-◌, ◌≤◌}
use Rattle.payloads.specs.Limits.{packed_size, limits_in}
use Rattle.payloads.proofs.count_limits.Given as goal

abbrev pub invariant-loop-i : goal.invariant-loop-i
invariant-loop-i l = (l.i ≤ l.count) × (l.limits ≡ limits_in (packed_size l.two) l.payload 0 l.i)

abbrev pub decreases-loop-i : goal.decreases-loop-i
decreases-loop-i l = l.count - l.i

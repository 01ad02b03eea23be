-- The results that are done, and the sum of one that has begun, stand for the numbers before the place (`unpacked-more`, `unpacked-done`).
use Rattle.std.proofs.Common.{◌-◌, ◌≤◌, length}
use Rattle.payloads.specs.Laws.Packed.{Unpacked}
use Rattle.payloads.proofs.scan_packed.Given as goal

abbrev pub invariant-loop-i : goal.invariant-loop-i
invariant-loop-i l =
    (l.i ≤ length l.payload) × (l.count ≤ l.i) × Unpacked l.size l.delta l.payload l.i l.part l.begun l.count l.sum l.exact

abbrev pub decreases-loop-i : goal.decreases-loop-i
decreases-loop-i l = length l.payload - l.i

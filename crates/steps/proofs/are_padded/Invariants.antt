-- The loop's invariant: the names that were tested and what is left decide.
use Rattle.std.proofs.Common.{◌≡◌, ◌*◌, ◌≤◌, ◌&&◌, map, drop, pos}
use Rattle.steps.specs.Payload.{padded_from}
use Rattle.steps.proofs.are_padded.Given as goal

abbrev pub invariant-loop-i : goal.invariant-loop-i
invariant-loop-i l =
    (l.i ≤ l.n) × (l.ok && padded_from l.size (l.i * l.size) (pos 0) (map pos (drop (l.i * l.size) l.names)) ≡ padded_from l.size 0 (pos 0) (map pos l.names))

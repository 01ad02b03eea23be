-- The loop's invariant: what was tested and what is left decide.
use Rattle.std.proofs.Common.{◌≡◌, ◌-◌, ◌<◌, ◌&&◌, map, get_or, drop, pos}
use Rattle.steps.specs.Payload.{padded_from}
use Rattle.steps.specs.Steps.{one_name}
use Rattle.steps.proofs.is_padded.Given as goal

abbrev pub invariant-loop-i : goal.invariant-loop-i
invariant-loop-i l = (0 < l.i) × (l.ok && padded_from 0 l.i (pos (get_or l.name (l.i - 1) 0)) (map pos (drop l.i l.name)) ≡ one_name l.name)

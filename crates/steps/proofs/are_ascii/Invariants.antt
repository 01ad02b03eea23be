-- The loop's invariant: the highest byte so far and what is left of both halves decide.
use Rattle.std.proofs.Common.{◌≡◌, ◌≤◌, ◌&&◌, leb, map, pos}
use Rattle.steps.specs.declared.Range.TheVariants.{Ascii}
use Rattle.steps.specs.Payload.{all_in}
use Rattle.steps.proofs.Laws.Allowed.{left}
use Rattle.steps.proofs.are_ascii.Given as goal

abbrev pub invariant-loop-i : goal.invariant-loop-i
invariant-loop-i l = (l.i ≤ l.half) × (leb l.highest 127 && left l.bytes l.half l.i ≡ all_in Ascii (map pos l.bytes))

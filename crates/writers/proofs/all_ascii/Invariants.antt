-- The loop's invariant: what was tested and what is left decide.
use Rattle.std.proofs.Common.{◌≡◌, ◌&&◌, map, drop, pos}
use Rattle.steps.specs.declared.Range.TheVariants.{Ascii}
use Rattle.steps.specs.Payload.{all_in}
use Rattle.writers.proofs.all_ascii.Given as goal

abbrev pub invariant-loop-b : goal.invariant-loop-b
invariant-loop-b l = l.ok && all_in Ascii (map pos (drop l.b-index l.values)) ≡ all_in Ascii (map pos l.values)

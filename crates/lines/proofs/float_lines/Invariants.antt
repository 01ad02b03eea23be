-- The lines of the values before i stand in the buffer.
use Rattle.lines.specs.Decimals.{float_in}
use Rattle.lines.specs.Laws.Lines.{GoingAt}
use Rattle.lines.proofs.float_lines.Given as goal

abbrev pub invariant-loop-i : goal.invariant-loop-i
invariant-loop-i l = GoingAt (float_in l.notation) 192 l.values l.i l.initial.buffer l.buffer l.at

-- The lines of the values before i stand in the buffer.
use Rattle.lines.specs.Texts.{number_text}
use Rattle.lines.specs.Laws.Lines.{GoingAt}
use Rattle.lines.proofs.number_lines.Given as goal

abbrev pub invariant-loop-i : goal.invariant-loop-i
invariant-loop-i l = GoingAt (number_text l.divisor) 32 l.values l.i l.initial.buffer l.buffer l.at

-- The digits from i on are put, each after those above it.
use lib.ListN.{drop}
use Rattle.text.specs.Put.{Put}
use Rattle.lines.specs.Figures.{glyphs}
use Rattle.lines.proofs.exact.put_row.Given as goal

abbrev pub invariant-loop-i : goal.invariant-loop-i
invariant-loop-i l = Put l.initial.buffer l.at (glyphs (drop l.i l.row)) l.buffer l.next

-- The lines of the names before `from` stand in the buffer; a size of 0 gives no name.
use Prim.Native.Nat.{◌-◌}
use lib.ListN.{length}
use Rattle.lines.specs.Texts.{name_text}
use Rattle.lines.specs.Laws.Lines.{GoingFrom}
use Rattle.lines.proofs.name_lines.Given as goal

abbrev pub invariant-loop-from : goal.invariant-loop-from
invariant-loop-from l = GoingFrom name_text l.size l.names l.i l.from l.initial.buffer l.buffer l.at

abbrev pub decreases-loop-from : goal.decreases-loop-from
decreases-loop-from l = length l.names - l.from

-- The digits from i on are 0; the first below them that is not, or the lowest, is the highest digit of the number.
use Rattle.lines.specs.Laws.Decimals.{Counted}
use Rattle.lines.proofs.exact.whole_count.Given as goal

abbrev pub invariant-loop-i : goal.invariant-loop-i
invariant-loop-i l = Counted l.row l.i

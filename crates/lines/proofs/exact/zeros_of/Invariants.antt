-- The digits before i are 0, so that the text is that of the rest.
use mathlib.Core.Path.{◌≡◌}
use lib.ListN.{drop}
use Rattle.lines.specs.Figures.{trimmed}
use Rattle.lines.proofs.exact.zeros_of.Given as goal

abbrev pub invariant-loop-i : goal.invariant-loop-i
invariant-loop-i l = trimmed l.row ≡ trimmed (drop l.i l.row)

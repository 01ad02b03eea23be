-- The bytes before i are none of them 0, so that the text begins with them.
use mathlib.Core.Path.{◌≡◌}
use mathlib.Core.List.{◌++◌}
use lib.ListN.{take, drop}
use Rattle.lines.specs.Texts.{name_text}
use Rattle.lines.proofs.text_length.Given as goal

abbrev pub invariant-loop-i : goal.invariant-loop-i
invariant-loop-i l = name_text l.name ≡ take l.i l.name ++ name_text (drop l.i l.name)

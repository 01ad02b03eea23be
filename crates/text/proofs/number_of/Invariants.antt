-- What the digits passed say, with what is left, gives the number.
use mathlib.Core.Path.{◌≡◌}
use Prim.Native.Nat.{◌≤◌}
use lib.ListN.{drop}
use Rattle.text.specs.Decimal.{number_in}
use Rattle.text.specs.Laws.Decimal.{finished}
use Rattle.text.proofs.number_of.Given as goal

abbrev pub invariant-loop-byte : goal.invariant-loop-byte
invariant-loop-byte l = (l.number ≤ 4294967295) × (number_in l.word ≡ finished l.number (drop l.byte-index l.word))

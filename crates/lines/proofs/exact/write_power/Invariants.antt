-- After so many turns the digits are those of m times that power of the factor.
use mathlib.Core.Path.{◌≡◌}
use Prim.Native.Nat.{◌*◌, ◌^◌}
use lib.ListN.{length}
use Rattle.lines.specs.Figures.{figures}
use Rattle.lines.proofs.exact.write_power.Given as goal

abbrev pub invariant-loop : goal.invariant-loop
invariant-loop l = l.row ≡ figures (length l.initial.row) (l.m * l.factor ^ l.counter)

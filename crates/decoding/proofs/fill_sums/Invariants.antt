-- n results of the run are written, and x is the last of them (`filled_next`).
use Prim.Native.Nat.{◌-◌}
use mathlib.Core.Bool.{true}
use Rattle.payloads.specs.Results.{Filled}
use Rattle.decoding.specs.Calls.{as_number}
use Rattle.decoding.proofs.fill_sums.Given as goal

abbrev pub invariant-loop-n : goal.invariant-loop-n
invariant-loop-n l = Filled as_number true l.sum l.delta l.initial.buffer l.from (l.n - l.from) l.buffer l.x

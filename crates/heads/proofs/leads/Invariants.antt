-- Each turn packs one row from the two tables. The invariant: the rows that are passed are packed.
use mathlib.Core.Path.{◌≡◌}
use Prim.Native.Nat.{ℕ, ◌+◌, ◌*◌, ◌<◌}
use lib.ListN.{length, get_or}
use Rattle.heads.proofs.leads.Given as goal

abbrev pub invariant-loop-i : goal.invariant-loop-i
invariant-loop-i l = (length l.rows ≡ 256) × ((k : ℕ) → k < l.i → get_or l.rows k 0 ≡ get_or l.kinds k 0 * 8 + get_or l.sizes k 0)

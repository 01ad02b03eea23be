-- `utf8::blocks` meets its contract: a block whose bits are below 80 is a run of characters of one byte each, so the bytes from its end are
-- UTF-8 exactly when those from its start are. Assumes nothing.
use mathlib.Core.Path.{◌≡◌}
use Prim.Native.Nat.{◌-◌, ◌≤◌}
use lib.ListN.{length, drop}
use Rattle.utf8.specs.Check.{is_utf8}
use Rattle.utf8.proofs.blocks.Given as goal

abbrev pub invariant-loop-at : goal.invariant-loop-at
invariant-loop-at l = (l.from ≤ l.at) × (l.at ≤ length l.bytes) × (is_utf8 (drop l.from l.bytes) ≡ is_utf8 (drop l.at l.bytes))

abbrev pub decreases-loop-at : goal.decreases-loop-at
decreases-loop-at l = length l.bytes - l.at

-- The packed result from here, with the sum so far, is the one from the item's start.
use Rattle.std.proofs.Common.{◌≡◌, ◌-◌, ◌≤◌, ltb, length}
use Rattle.steps.specs.declared.Form.TheVariants.{Packed}
use Rattle.payloads.specs.Items.{item_at}
use Rattle.payloads.specs.Laws.Items.{result_at}
use Rattle.payloads.proofs.packed_item.Given as goal

abbrev pub invariant-loop-i : goal.invariant-loop-i
invariant-loop-i l = (l.at ≤ l.i) × (l.i ≤ length l.payload) × (result_at l.size l.payload l.sum (ltb l.at l.i) l.i ≡ item_at (Packed l.size) l.payload l.at)

abbrev pub decreases-loop-i : goal.decreases-loop-i
decreases-loop-i l = length l.payload - l.i

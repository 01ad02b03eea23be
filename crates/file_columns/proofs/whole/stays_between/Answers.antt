-- Upwards, downwards or by turns, where no step passes over what is outside (`stays_up`, `stays-down`, `turns_between`); else sum by sum.
use Rattle.std.proofs.Common.{◌≡◌, ℕ, ◌-◌, ◌*◌, leb, sym, ap, ◌∙◌, ap₂, to_z-of_z, w32, of_z}
use Rattle.file_columns.specs.Passing.{ahead_of}
use Rattle.file_columns.specs.Laws.Around.{stays_up, stays-down}
use Rattle.file_columns.proofs.whole.stays_between.Goals as goal
use Rattle.file_columns.proofs.whole.stays_between.Goals.{After-ahead-above, After-ahead-below, After-cast_unsigned-up}

-- the ways up and down, and the bits of the value
above : (c : After-ahead-above) → c.ahead-above.result ≡ ahead_of c.args.sum c.args.high
above c = rw (to_z-of_z {w = w32} c.ranges.sum, to_z-of_z {w = w32} c.ranges.high) at c.ahead-above.ensures

below : (c : After-ahead-below) → c.ahead-below.result ≡ ahead_of c.args.low c.args.sum
below c = rw (to_z-of_z {w = w32} c.ranges.low, to_z-of_z {w = w32} c.ranges.sum) at c.ahead-below.ensures

bits : (c : After-cast_unsigned-up) → c.cast_unsigned-up.result ≡ of_z w32 c.args.value
bits c = c.cast_unsigned-up.ensures ∙ ap (of_z w32) (to_z-of_z {w = w32} c.ranges.value)

pub returns-then-up-outside : goal.returns-then-up-outside
returns-then-up-outside c =
    let a = c in
    let p = above (goal.at.returns-then-up-outside c).After-ahead-above in
    let q = below (goal.at.returns-then-up-outside c).After-ahead-below in
    let b = bits (goal.at.returns-then-up-outside c).After-cast_unsigned-up in
    let h = rw (b, p, q) at c.if-up-outside.true in
    c.has_room.ensures ∙ ap₂ (λ (m n : ℕ). leb (a.args.count * m) n) b p
    ∙ sym (stays_up a.args.low a.args.high a.ranges.low a.ranges.high a.args.value a.ranges.value a.args.sum a.ranges.sum a.requires h a.args.count)

pub returns-then-down-outside : goal.returns-then-down-outside
returns-then-down-outside c =
    let a = c in
    let p = above (goal.at.returns-then-down-outside c).After-ahead-above in
    let q = below (goal.at.returns-then-down-outside c).After-ahead-below in
    let b = bits (goal.at.returns-then-down-outside c).After-cast_unsigned-up in
    let h = rw (b, p, q) at c.if-down-outside.true in
    c.has_room-then-down-outside.ensures ∙ ap₂ (λ (m n : ℕ). leb (a.args.count * (4294967296 - m)) n) b q
    ∙ sym (stays-down a.args.low a.args.high a.ranges.low a.ranges.high a.args.value a.ranges.value a.args.sum a.ranges.sum a.requires h a.args.count)

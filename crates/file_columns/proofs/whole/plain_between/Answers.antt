-- The numbers before the place pass or not, and those from it on decide (`passing-on`).
use Rattle.std.proofs.Common.{ap, ◌∙◌, arith, to_z-of_z, w32, to_z, of_z}
use Rattle.numbers.specs.BigEndian.{signed_at}
use Rattle.numbers.specs.Ranges.{between}
use Rattle.steps.specs.Width.{width_of}
use Rattle.file_columns.specs.Laws.Passing.{passing-start, passing-on, passing-end}
use Rattle.file_columns.proofs.whole.plain_between.Goals as goal

pub loop-at-init : goal.loop-at-init
loop-at-init c =
    let a = c.args in
    (omega arith, rw c.bytes-k.ensures (passing-start (between (to_z w32 (of_z w32 a.low)) (to_z w32 (of_z w32 a.high))) a.n a.size a.payload.now))

pub loop-at-preserved : goal.loop-at-preserved
loop-at-preserved c =
    let a = c.args in
    let p = c.loop-at in
    let e = c.bytes-k.ensures in
    let x = to_z-of_z {w = w32} (record { sfits = c.number_at-number.type_inv }) ∙ c.number_at-number.ensures in
    let b = c.is_between-fine.ensures ∙ ap (between (to_z w32 (of_z w32 a.low)) (to_z w32 (of_z w32 a.high))) x in
    (omega arith, rw (e, b) (passing-on (between (to_z w32 (of_z w32 a.low)) (to_z w32 (of_z w32 a.high))) a.n a.size a.payload.now p.at p.fine p.invariant.1 (omega arith)))

pub returns : goal.returns
returns c =
    let a = c in
    let p = c.loop-at in
    rw (to_z-of_z {w = w32} a.ranges.low, to_z-of_z {w = w32} a.ranges.high)
    at (passing-end (between (to_z w32 (of_z w32 a.args.low)) (to_z w32 (of_z w32 a.args.high))) a.args.n a.args.size a.args.payload.now p.at p.fine p.invariant.1 (omega (arith, c.bytes-k.ensures)))

-- Below the exponent 150 there are places after the point; else the number is whole.
use mathlib.Core.Path.{sym}
use Prim.Native.Nat.{◌+◌, ◌-◌, ◌*◌, ◌^◌}
use native.Mathlib.Omega.{arith}
use lib.Seq.{length-take-le}
use Rattle.text.specs.Laws.Put.{put_as}
use Rattle.lines.specs.Laws.Figures.{prefix-figures, prefix-length, prefix-within}
use Rattle.lines.specs.Laws.Decimals.{five-room, two-room, binary-small, binary-large}
use Rattle.lines.proofs.exact.put_binary.Goals as goal

pub returns-then-exponent-lt150 : goal.returns-then-exponent-lt150
returns-then-exponent-lt150 c =
    let a = c.args in
    let k = 150 - a.exponent in
    put_as (c.put_scaled.ensures (a.m * 5 ^ k) (prefix-figures (150 - c.args.exponent + 39) (c.args.m * 5 ^ (150 - c.args.exponent)) c.blank-row.result c.write_power.new.row _ (omega (arith, c.blank-row.ensures, c.requires.le_exponent)) c.write_power.ensures) (five-room a.m k c.requires.m_bound))
    (binary-small a.m a.exponent c.if-exponent-lt150.true)

pub slice_bounds-write_power-end-2 : goal.slice_bounds-write_power-end-2
slice_bounds-write_power-end-2 c = sym (length-take-le 39 c.blank-row.result (omega (arith, c.blank-row.ensures)))

pub slice_bounds-row-end-3 : goal.slice_bounds-row-end-3
slice_bounds-row-end-3 c = prefix-within 39 (c.args.m * 2 ^ (c.args.exponent - 150)) c.blank-row.result c.write_power-2.new.row _ (omega (arith, c.blank-row.ensures, c.requires.le_exponent)) c.write_power-2.ensures

pub slice_bounds-put_scaled-end-2 : goal.slice_bounds-put_scaled-end-2
slice_bounds-put_scaled-end-2 c = sym (prefix-length 39 (c.args.m * 2 ^ (c.args.exponent - 150)) c.blank-row.result c.write_power-2.new.row _ (omega (arith, c.blank-row.ensures, c.requires.le_exponent)) c.write_power-2.ensures)

pub put_scaled-requires-2 : goal.put_scaled-requires-2
put_scaled-requires-2 c = prefix-length 39 (c.args.m * 2 ^ (c.args.exponent - 150)) c.blank-row.result c.write_power-2.new.row _ (omega (arith, c.blank-row.ensures, c.requires.le_exponent)) c.write_power-2.ensures

pub returns : goal.returns
returns c =
    let a = c.args in
    let k = a.exponent - 150 in
    put_as (c.put_scaled-2.ensures (a.m * 2 ^ k) (prefix-figures 39 (c.args.m * 2 ^ (c.args.exponent - 150)) c.blank-row.result c.write_power-2.new.row _ (omega (arith, c.blank-row.ensures, c.requires.le_exponent)) c.write_power-2.ensures) (two-room a.m k c.requires.m_bound (omega (arith, c.requires.le_exponent))))
    (binary-large a.m a.exponent c.if-exponent-lt150.false)

-- The bytes stored one after the other are the written buffer (`written_at-stores`).
use Rattle.std.proofs.Common.{◌+◌, ◌≤◌, length, add-zero}
use Rattle.numbers.specs.Laws.BigEndian.{written_at-stores}
use Rattle.writers.specs.Laws.Placed.{over-written}
use Rattle.writers.proofs.put_one.Goals as goal

pub returns : goal.returns
returns c =
    let a = c in
    let h : a.args.at + 1 ≤ length a.args.buffer.now = a.requires in
    rw (c.low_byte.ensures, ← over-written a.args.buffer.now a.args.at 1 a.args.bits h)
    (rw (written_at-stores 1 a.args.buffer.now a.args.at a.args.bits h, add-zero))

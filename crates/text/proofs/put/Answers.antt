-- The bytes passed are put, each after those before it.
use Prim.Native.Nat.{◌<◌}
use native.Mathlib.Omega.{arith}
use native.Mathlib.Numerals.{add-one}
use lib.ListN.{length}
use lib.Seq.{take-suc}
use Rattle.text.specs.Laws.Put.{put-more, put_as}
use Rattle.text.proofs.put.Goals as goal

pub loop-byte-preserved : goal.loop-byte-preserved
loop-byte-preserved c =
    let bytes = c.args.bytes.now in
    let p = c.loop-byte in
    let h : p.byte-index < length bytes = omega arith in
    put_as (put-more p.invariant c.put_byte-next.ensures) (rw (add-one p.byte-index, take-suc bytes p.byte-index 0))

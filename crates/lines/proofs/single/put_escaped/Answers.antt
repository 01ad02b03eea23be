-- The bytes passed are put, each as it is shown.
use Prim.Native.Nat.{◌<◌}
use native.Mathlib.Omega.{arith}
use native.Mathlib.Numerals.{add-one}
use lib.ListN.{length, take, get_or}
use lib.Seq.{take-suc}
use Rattle.text.specs.Laws.Put.{put-none, put-more, put_as}
use Rattle.lines.specs.Laws.Single.{escaped-last, escaped-none}
use Rattle.lines.proofs.single.put_escaped.Goals as goal

pub loop-byte-init : goal.loop-byte-init
loop-byte-init c = put_as (put-none _ _) (escaped-none _)

pub loop-byte-preserved : goal.loop-byte-preserved
loop-byte-preserved c =
    let a = c.args in
    let bytes = a.bytes.now in
    let p = c.loop-byte in
    let i = p.byte-index in
    let h : i < length bytes = omega arith in
    put_as (put-more p.invariant c.put_shown-next.ensures) (rw (add-one i, take-suc bytes i 0) (escaped-last a.mark (take i bytes) (get_or bytes i 0)))

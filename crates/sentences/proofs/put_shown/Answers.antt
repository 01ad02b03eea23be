-- The bytes that are passed are put, each as it is shown. Assumes nothing.
use Prim.Native.Nat.{◌<◌}
use native.Mathlib.Omega.{arith}
use native.Mathlib.Numerals.{add-one}
use lib.ListN.{length, take, get_or}
use lib.Seq.{take-suc}
use Rattle.text.specs.Laws.Put.{put-none, put-more, put_as}
use Rattle.sentences.specs.Shown.{shown_byte}
use Rattle.sentences.specs.Laws.Shown.{replaced-last, replaced-none}
use Rattle.sentences.proofs.put_shown.Goals as goal

pub loop-byte-init : goal.loop-byte-init
loop-byte-init c = put_as (put-none _ _) (replaced-none shown_byte)

pub loop-byte-preserved : goal.loop-byte-preserved
loop-byte-preserved c =
    let word = c.args.word.now in
    let p = c.loop-byte in
    let i = p.byte-index in
    let h : i < length word = omega arith in
    put_as (put-more p.invariant c.put_shown_byte-next.ensures) (rw (add-one i, take-suc word i 0) (replaced-last shown_byte (take i word) (get_or word i 0)))

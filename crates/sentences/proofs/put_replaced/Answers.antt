-- The bytes of the form that are passed are put, each mark replaced. Assumes nothing.
use Prim.Native.Nat.{◌<◌}
use native.Mathlib.Omega.{arith}
use native.Mathlib.Numerals.{add-one}
use lib.ListN.{length, take, get_or}
use lib.Seq.{take-suc}
use Rattle.text.specs.Laws.Put.{put-none, put-more, put_as}
use Rattle.sentences.specs.Sentences.{mark_of}
use Rattle.sentences.specs.Laws.Shown.{replaced-none, replaced-last}
use Rattle.sentences.proofs.put_replaced.Goals as goal

pub loop-mark-init : goal.loop-mark-init
loop-mark-init c = put_as (put-none _ _) (replaced-none _)

pub loop-mark-preserved : goal.loop-mark-preserved
loop-mark-preserved c =
    let a = c.args in
    let p = c.loop-mark in
    let i = p.mark-index in
    let h : i < length a.form.now = omega arith in
    put_as (put-more p.invariant c.put_mark-next.ensures) (rw (add-one i, take-suc a.form.now i 0) (replaced-last (mark_of a.subject.now a.name.now a.sentence) (take i a.form.now) (get_or a.form.now i 0)))

-- What is left of the values gives the rest of the sum; a file has no more values than bytes, so that the sum has room.
use mathlib.Core.Path.{subst, ◌∙◌}
use Prim.Native.Nat.{ℕ, ◌+◌}
use native.Mathlib.Omega.{arith}
use mir.Syntax.{w32}
use mir.Val.{to_z, of_z}
use mir.Facts.{to_z-of_z}
use Rattle.numbers.specs.Laws.Ranges.{index-bits}
use Rattle.values.specs.Laws.Integers.{Summing, all-few, summing_start, summing-more, summing-negative, summing-end}
use Rattle.values.proofs.lists.sum_from.Goals as goal

pub returns-then-n-gt-FILE_LIMIT : goal.returns-then-n-gt-FILE_LIMIT
returns-then-n-gt-FILE_LIMIT c = λ l ds e a k. absurd (omega (arith, c.if-n-gt-FILE_LIMIT.true, all-few ds a))

pub loop-i-init : goal.loop-i-init
loop-i-init c = ((omega arith, omega arith), λ l ds e a k. summing_start a (omega (arith, k)))

pub returns-then-next-lt0 : goal.returns-then-next-lt0
returns-then-next-lt0 c = λ l ds e a k. summing-negative (to_z w32 (of_z w32 c.next_integer-next.result.value)) (c.loop-i.invariant.1 l ds e a k) (omega arith) c.if-next-lt0.true (λ x f d. to_z-of_z {w = w32} (record { sfits = c.struct_told-1.given.0.1 }) ∙ (c.next_integer-next.ensures x f d).0)

pub loop-i-preserved : goal.loop-i-preserved
loop-i-preserved c =
    let i = c.loop-i.invariant.0 in
    let v = c.next_integer-next.result in (
      (i.0, omega (arith, i.0, i.1, c.from-total.type_inv)),
      λ l ds e a k. subst (λ (n : ℕ). Summing c.args.file.now ds v.end n (c.loop-i.total + c.from-total.result) e) (omega arith) (summing-more (to_z w32 (of_z w32 v.value)) c.from-total.result (c.loop-i.invariant.1 l ds e a k) (omega arith) c.if-next-lt0.false (c.from-total.ensures ∙ c.cast_unsigned.ensures ∙ index-bits (to_z w32 (of_z w32 v.value)) c.if-next-lt0.false) (λ x f d. (to_z-of_z {w = w32} (record { sfits = c.struct_told-1.given.0.1 }) ∙ (c.next_integer-next.ensures x f d).0, (c.next_integer-next.ensures x f d).1))),
    )

pub returns : goal.returns
returns c = λ l ds e a k. summing-end (c.loop-i.invariant.1 l ds e a k) (omega arith)

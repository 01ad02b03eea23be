-- What is left of the values decides, since those before lie between the two numbers.
use mathlib.Core.Path.{sym, subst, ◌∙◌}
use Prim.Native.Nat.{ℕ}
use native.Mathlib.Omega.{arith}
use mir.Syntax.{w32}
use mir.Val.{to_z, of_z}
use mir.Facts.{to_z-of_z}
use Rattle.numbers.specs.Ranges.{between}
use Rattle.values.specs.Laws.Integers.{Judging, judging-start, judging-more, judging-out, judging-end}
use Rattle.values.proofs.lists.between_from.Goals as goal

pub loop-i-init : goal.loop-i-init
loop-i-init c = λ ds e a k. judging-start a (omega (arith, k))

pub returns-then-not-is_between : goal.returns-then-not-is_between
returns-then-not-is_between c =
    λ ds e a k.
    let a₀ = c in
    let b = sym c.is_between.ensures ∙ c.if-not-is_between.true in
    let o = judging-out (to_z w32 (of_z w32 c.next_integer-next.result.value)) (c.loop-i.invariant ds e a k) (omega arith) b (λ x f d. to_z-of_z {w = w32} (record { sfits = c.struct_told-1.given.0.1 }) ∙ (c.next_integer-next.ensures x f d).0) in
    rw (to_z-of_z {w = w32} a₀.ranges.low, to_z-of_z {w = w32} a₀.ranges.high) at o

pub loop-i-preserved : goal.loop-i-preserved
loop-i-preserved c =
    λ ds e a k.
    let b = sym c.is_between.ensures ∙ c.if-not-is_between.false in
    let m = judging-more (to_z w32 (of_z w32 c.next_integer-next.result.value)) (c.loop-i.invariant ds e a k) (omega arith) b (λ x f d. (to_z-of_z {w = w32} (record { sfits = c.struct_told-1.given.0.1 }) ∙ (c.next_integer-next.ensures x f d).0, (c.next_integer-next.ensures x f d).1)) in
    subst (λ (l : ℕ). Judging c.args.file.now ds (between (to_z w32 (of_z w32 c.args.low)) (to_z w32 (of_z w32 c.args.high))) c.next_integer-next.result.end l e) (omega arith) m

pub returns : goal.returns
returns c =
    λ ds e a k.
    let a₀ = c in
    let o = judging-end (c.loop-i.invariant ds e a k) (omega arith) in
    rw (to_z-of_z {w = w32} a₀.ranges.low, to_z-of_z {w = w32} a₀.ranges.high) at o

-- What is left to pass over, whatever it is, stands from here up to the same end; a count that cannot be true stands nowhere.
use Prim.Native.Nat.{◌-◌}
use native.Mathlib.Omega.{arith}
use Rattle.values.specs.Laws.Standing.{standing-counts, standing-inside, standing-none, standing-suc, standing-swap, stepped-stop, stepped-on}
use Rattle.values.proofs.skip.Goals.{then-room-others-via-then-room-others, then-room-others-via-else-room-others+then-room-others-2}
use Rattle.values.proofs.skip.Goals as goal

pub returns-in_default : goal.returns-in_default
returns-in_default c = λ e st. absurd (stepped-stop _ _ (c.step_over.ensures) c.in_default.is (c.loop-left.left - 1) e (standing-suc _ _ _ e c.loop-left-test.true (c.loop-left.invariant e st)))

pub returns-then-room-others : goal.returns-then-room-others
returns-then-room-others c =
    λ e st.
    let w = stepped-on _ _ (c.step_over.ensures) c.in-Some.is in
    let s = w.goes (c.loop-left.left - 1) e (standing-suc _ _ _ e c.loop-left-test.true (c.loop-left.invariant e st)) in
    let n = standing-counts _ _ _ e s in
    let i = standing-inside _ _ _ e s w.inside in
    elim c.then-room-others.branch [
      | then-room-others-via-then-room-others v ↦ absurd (omega (arith, w.inside, n, i, v.if-room-others.true))
      | then-room-others-via-else-room-others+then-room-others-2 v ↦ absurd (omega (arith, w.inside, n, i, v.if-room-others-2.true))
    ]

pub loop-left-preserved : goal.loop-left-preserved
loop-left-preserved c =
    λ e st.
    let w = stepped-on _ _ (c.step_over.ensures) c.in-Some.is in
    let s = w.goes (c.loop-left.left - 1) e (standing-suc _ _ _ e c.loop-left-test.true (c.loop-left.invariant e st)) in
    standing-swap _ _ _ _ e s

pub returns : goal.returns
returns c = λ e st. standing-none _ _ _ e c.loop-left-test.false (c.loop-left.invariant e st)

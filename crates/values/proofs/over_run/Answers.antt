-- What is left of the values stands from here up to the same end.
use mathlib.Core.Path.{subst}
use Prim.Native.Nat.{ℕ, ◌+◌, ◌-◌, ◌≤◌}
use native.Mathlib.Omega.{arith}
use lib.ListN.{length}
use Rattle.values.specs.Standing.{Standing, after}
use Rattle.values.specs.Laws.Standing.{steps-sized, run-again}
use Rattle.values.proofs.over_run.Goals as goal

pub returns-then-file-q : goal.returns-then-file-q
returns-then-file-q c = after c.loop-i.invariant.0 c.loop-i.invariant.1 c.loop-i.invariant.2

pub loop-i-preserved : goal.loop-i-preserved
loop-i-preserved c =
    let a = c in
    let l = c.loop-i in
    let s = a.args.file.now in
    let le : l.q + a.args.size ≤ length s = omega (arith, l.invariant.1, c.if-file-q.false) in
    let step = steps-sized s l.q a.requires.1 c.if-file-q-2.false le in
    (omega (arith, l.invariant.0), le, λ m e st. subst (λ (k : ℕ). Standing s (k + m) (l.q + a.args.size) e) (omega arith) (run-again s a.args.n (a.args.n - l.i) a.args.p l.q a.args.size (omega arith) step l.invariant.2 m e st))

pub returns : goal.returns
returns c = after c.loop-i.invariant.0 c.loop-i.invariant.1 (λ m e st. subst (λ (k : ℕ). Standing c.args.file.now (k + m) c.loop-i.q e) (omega arith) (c.loop-i.invariant.2 m e st))

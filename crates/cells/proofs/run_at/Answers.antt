-- The runs before the place do not reach the index (`reaching-more`), and the next does (`reaching-here`).
use mathlib.Core.Path.{◌≡◌, sym, ap, ◌∙◌}
use Prim.Native.Nat.{◌+◌}
use native.Mathlib.Nat.{add-zero}
use native.Mathlib.Omega.{arith}
use lib.IntN.{ℤ}
use mir.Syntax.{w32}
use mir.Val.{to_z, of_z}
use mir.Facts.{to_z-of_z, of_z-to_z}
use Rattle.numbers.specs.BigEndian.{signed_at}
use Rattle.steps.specs.Delta.{after_run}
use Rattle.payloads.specs.Laws.Runs.{part-number}
use Rattle.cells.specs.Laws.Found.{reaching-start, reaching-end, reaching-more, reaching-here}
use Rattle.cells.proofs.run_at.Lts as lts
use Rattle.cells.proofs.run_at.Reads as reads
use Rattle.cells.proofs.run_at.Tie as tie
use Rattle.cells.proofs.run_at.Goals as goal

-- the value and the count that were read
value : (c : lts.After-read_u32 tie.the-claims reads.Pre reads.Post goal.the-invariant-loop-at goal.the-decreases-loop-at) → to_z w32 (of_z w32 c.read_i32-value.result) ≡ signed_at w32 c.args.payload.now c.loop-at.at
value c = to_z-of_z {w = w32} (record { sfits = c.read_i32-value.type_inv }) ∙ c.read_i32-value.ensures ∙ part-number c.args.payload.now c.loop-at.at 0 (omega arith) ∙ ap (signed_at w32 c.args.payload.now) (add-zero c.loop-at.at)

count : (c : lts.After-read_u32 tie.the-claims reads.Pre reads.Post goal.the-invariant-loop-at goal.the-decreases-loop-at) → c.read_u32-count.result ≡ of_z w32 (signed_at w32 c.args.payload.now (c.loop-at.at + 4))
unfolding signed_at
count c =
    sym (of_z-to_z {w = w32} (record { fits = c.read_u32-count.type_inv })) ∙ ap (of_z w32) (ap (to_z w32) c.read_u32-count.ensures ∙ part-number c.args.payload.now c.loop-at.at 4 (omega arith))

pub loop-at-init : goal.loop-at-init
loop-at-init c = let a = c.args in (omega arith, (λ r l e. reaching-start r a.delta a.index a.payload.now l e))

pub returns-then-left-count : goal.returns-then-left-count
returns-then-left-count c =
    let a = c.args in
    let p = c.loop-at in
    let v = to_z-of_z {w = w32} (record { sfits = c.after_run.type_inv }) ∙ c.after_run.ensures ∙ ap (λ (x : ℤ). after_run a.delta (to_z w32 p.sum-bits) x (p.left + 1)) (value c.before.before.before) in
    λ r l e h. v ∙ reaching-here r a.delta a.index a.payload.now l e p.at p.left (to_z w32 p.sum-bits) (p.invariant.1 r l e) (omega arith) c.read_u32-count.result (count c.before.before.before) c.if-left-count.true

pub loop-at-preserved : goal.loop-at-preserved
loop-at-preserved c =
    let a = c.args in
    let p = c.loop-at in
    let v = to_z-of_z {w = w32} (record { sfits = c.after_run-sum.type_inv }) ∙ c.after_run-sum.ensures ∙ ap (λ (x : ℤ). after_run a.delta (to_z w32 p.sum-bits) x c.read_u32-count.result) (value c.before.before.before) in
    (omega arith, (λ r l e. rw v (reaching-more r a.delta a.index a.payload.now l e p.at p.left (to_z w32 p.sum-bits) (p.invariant.1 r l e) (omega arith) c.read_u32-count.result (count c.before.before.before) c.if-left-count.false)))

pub returns : goal.returns
returns c = let a = c.args in let p = c.loop-at in λ r l e h. reaching-end r a.delta a.index a.payload.now l e p.at p.left (to_z w32 p.sum-bits) (p.invariant.1 r l e) (omega arith) h

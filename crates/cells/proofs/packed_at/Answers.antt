-- The results before the place are not yet the one at the index (`sought-more`, `sought-done`), and the next is (`sought-here`).
use mathlib.Core.Path.{◌≡◌, sym, ap, ◌∙◌}
use Prim.Native.Nat.{ℕ, ◌+◌, ◌-◌, ◌≤◌}
use native.Mathlib.Omega.{arith}
use lib.ListN.{length, take, drop}
use mir.Syntax.{w32}
use mir.Val.{to_z, of_z}
use mir.Facts.{to_z-of_z}
use Rattle.numbers.specs.BigEndian.{signed_at}
use Rattle.steps.specs.Width.{width_of, size_of, upper, lower}
use Rattle.steps.specs.Delta.{plus_delta}
use Rattle.steps.specs.Packing.{is_limit}
use Rattle.payloads.specs.Laws.Plain.{number-part}
use Rattle.cells.specs.Laws.Found.{sought-start, sought-end, sought-more, sought-done, sought-here}
use Rattle.cells.proofs.packed_at.Lts as lts
use Rattle.cells.proofs.packed_at.Reads as reads
use Rattle.cells.proofs.packed_at.Tie as tie
use Rattle.cells.proofs.packed_at.Goals as goal

-- there are bytes for a number
room : (c : lts.After-is_limit tie.the-claims reads.Pre reads.Post goal.the-invariant-loop-at goal.the-decreases-loop-at) → c.loop-at.at + size_of c.args.size ≤ length c.args.payload.now
room c = omega (arith, c.bytes-k.ensures)

-- the number, whether it is a limit, and the total with it
number : (c : lts.After-is_limit tie.the-claims reads.Pre reads.Post goal.the-invariant-loop-at goal.the-decreases-loop-at) → to_z w32 (of_z w32 c.number_at-number.result) ≡ signed_at (width_of c.args.size) c.args.payload.now c.loop-at.at
number c =
    let a = c.args in
    let p = c.loop-at in
    let k = c.bytes-k in
    let m : p.at + k.result - p.at ≡ size_of a.size = omega (arith, k.ensures) in
    to_z-of_z {w = w32} (record { sfits = c.number_at-number.type_inv }) ∙ c.number_at-number.ensures ∙ ap (λ (i : ℕ). signed_at (width_of a.size) (take i (drop p.at a.payload.now)) 0) m ∙ number-part a.size a.payload.now p.at (room c)

limit : (c : lts.After-is_limit tie.the-claims reads.Pre reads.Post goal.the-invariant-loop-at goal.the-decreases-loop-at) → is_limit (upper c.args.size) (lower c.args.size) (signed_at (width_of c.args.size) c.args.payload.now c.loop-at.at) ≡ c.is_limit.result
limit c = sym (c.is_limit.ensures ∙ ap (is_limit (upper c.args.size) (lower c.args.size)) (number c))

total : (c : lts.After-is_limit tie.the-claims reads.Pre reads.Post goal.the-invariant-loop-at goal.the-decreases-loop-at) → to_z w32 (of_z w32 c.add_delta-total.result) ≡ plus_delta (to_z w32 c.loop-at.total-bits) (signed_at (width_of c.args.size) c.args.payload.now c.loop-at.at)
total c = to_z-of_z {w = w32} (record { sfits = c.add_delta-total.type_inv }) ∙ c.add_delta-total.ensures ∙ ap (plus_delta (to_z w32 c.loop-at.total-bits)) (number c)

pub loop-at-init : goal.loop-at-init
loop-at-init c = let a = c.args in (omega arith, (λ l e. sought-start a.size a.delta a.index a.payload.now l e))

pub returns-then-left-eq0 : goal.returns-then-left-eq0
returns-then-left-eq0 c =
    let a = c.args in
    let p = c.loop-at in
    λ l e h. sought-here a.size a.delta a.index a.payload.now l e p.at p.left (to_z w32 p.total-bits) (p.invariant.1 l e) (room c.before.before.before) (to_z w32 (of_z w32 c.add_delta-total.result)) (total c.before.before.before) (limit c.before.before.before ∙ c.if-not-is_limit.true) c.if-left-eq0.true

pub loop-at-preserved-then-not-is_limit : goal.loop-at-preserved-then-not-is_limit
loop-at-preserved-then-not-is_limit c =
    let a = c.args in
    let p = c.loop-at in
    let b = c.bytes-k.ensures in
    let o = to_z-of_z {w = w32} {z = c.add_delta-total.result} (record { sfits = c.add_delta-total.type_inv }) in
    let t = to_z-of_z {w = w32} (record { sfits = c.total_after-total.type_inv }) ∙ c.total_after-total.ensures in
    (omega arith, (λ l e. rw (b, t) (sought-done a.size a.delta a.index a.payload.now l e p.at p.left (to_z w32 p.total-bits) (p.invariant.1 l e) (room c.before.before.before.before) (to_z w32 (of_z w32 c.add_delta-total.result)) (total c.before.before.before.before) (limit c.before.before.before.before ∙ c.if-not-is_limit.true) (rw o (record { sfits = c.add_delta-total.type_inv })) (omega arith))))

pub loop-at-preserved : goal.loop-at-preserved
loop-at-preserved c =
    let a = c.args in
    let p = c.loop-at in
    let b = c.bytes-k.ensures in
    (omega arith, (λ l e. rw b (sought-more a.size a.delta a.index a.payload.now l e p.at p.left (to_z w32 p.total-bits) (p.invariant.1 l e) (room c.before.before) (to_z w32 (of_z w32 c.add_delta-total.result)) (total c.before.before) (limit c.before.before ∙ c.if-not-is_limit.false))))

pub returns : goal.returns
returns c = let a = c.args in let p = c.loop-at in λ l e h. sought-end a.size a.delta a.index a.payload.now l e p.at p.left (to_z w32 p.total-bits) (p.invariant.1 l e) (omega (arith, c.bytes-k.ensures)) h

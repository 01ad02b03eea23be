-- The results that are done, and the sum of one that has begun, stand for the numbers before the place (`unpacked-more`, `unpacked-done`).
use Rattle.std.proofs.Common.{◌+◌, ◌≤◌, Bool, ◌&&◌, length, sym, ap, ◌∙◌, arith, to_z-of_z, w32, to_z, of_z}
use Rattle.steps.specs.Width.{size_of}
use Rattle.steps.specs.Steps.{turn_of}
use Rattle.steps.proofs.Laws.Numbers.{size-pos}
use Rattle.steps.specs.Delta.{advance}
use Rattle.payloads.specs.Laws.Packed.{unpacked-start, unpacked-more, unpacked-done, unpacked-wrong, unpacked-unfinished, unpacked-other, unpacked-all}
use Rattle.payloads.proofs.scan_packed.Lts as lts
use Rattle.payloads.proofs.scan_packed.Reads as reads
use Rattle.payloads.proofs.scan_packed.Tie as tie
use Rattle.payloads.proofs.scan_packed.Goals as goal

-- there are bytes for a number
room : (c : lts.After-unpack_one tie.the-claims reads.Pre reads.Post goal.the-invariant-loop-i goal.the-decreases-loop-i) → c.loop-i.i + size_of c.args.size ≤ length c.args.payload.now
room c = omega (arith, c.bytes-k.ensures)

pub loop-i-init : goal.loop-i-init
loop-i-init c = let a = c.args in (omega arith, omega arith, unpacked-start a.size a.delta a.payload.now)

pub loop-i-preserved-in-More : goal.loop-i-preserved-in-More
loop-i-preserved-in-More c =
    let a = c.args in
    let p = c.loop-i in
    let e = c.bytes-k.ensures in
    let z = to_z-of_z {w = w32} {z = c.in-More.s} (record { sfits = omega arith }) in
    (omega arith, omega (arith, p.invariant.1), rw (e, z) (unpacked-more a.size a.delta a.length a.payload.now p.i (to_z w32 p.part-bits) p.begun p.count (to_z w32 p.sum-bits) p.exact p.invariant.2 (room c.before.before) c.in-More.s (sym (c.unpack_one.ensures ∙ ap (turn_of a.size (to_z w32 p.part-bits)) (to_z-of_z {w = w32} (record { sfits = c.number_at-number.type_inv }) ∙ c.number_at-number.ensures)) ∙ c.in-More.is)))

pub loop-i-preserved : goal.loop-i-preserved
loop-i-preserved c =
    let a = c.args in
    let p = c.loop-i in
    let e = c.bytes-k.ensures in
    let o = size-pos a.size in
    let z = to_z-of_z {w = w32} {z = c.in-Done.s} (record { sfits = omega arith }) in
    let y = to_z-of_z {w = w32} (record { sfits = c.next_result-sum.type_inv }) in
    let q = y ∙ c.next_result-sum.ensures ∙ ap (advance a.delta (to_z w32 p.sum-bits)) z in
    let b = ap (λ (t : Bool). p.exact && t) c.is_exact-exact.ensures in
    (omega arith, omega (arith, p.invariant.1), rw (e, b) (unpacked-done a.size a.delta a.length a.payload.now p.i (to_z w32 p.part-bits) p.begun p.count (to_z w32 p.sum-bits) p.exact p.invariant.2 (room c.before.before.before.before) c.in-Done.s (to_z w32 (of_z w32 c.next_result-sum.result)) (sym (c.unpack_one.ensures ∙ ap (turn_of a.size (to_z w32 p.part-bits)) (to_z-of_z {w = w32} (record { sfits = c.number_at-number.type_inv }) ∙ c.number_at-number.ensures)) ∙ c.in-Done.is) q))

pub returns-in-Wrong : goal.returns-in-Wrong
returns-in-Wrong c =
    let a = c.args in
    let p = c.loop-i in
    unpacked-wrong a.size a.delta a.length a.payload.now p.i (to_z w32 p.part-bits) p.begun p.count (to_z w32 p.sum-bits) p.exact p.invariant.2 (room c.before.before) (sym (c.unpack_one.ensures ∙ ap (turn_of a.size (to_z w32 p.part-bits)) (to_z-of_z {w = w32} (record { sfits = c.number_at-number.type_inv }) ∙ c.number_at-number.ensures)) ∙ c.in-Wrong.is)

pub returns-then-begun : goal.returns-then-begun
returns-then-begun c =
    let a = c.args in
    let p = c.loop-i in
    unpacked-unfinished a.size a.delta a.length a.payload.now p.i (to_z w32 p.part-bits) p.begun p.count (to_z w32 p.sum-bits) p.exact p.invariant.2 (omega (arith, c.bytes-k.ensures)) c.if-begun.true

pub returns-then-count-length : goal.returns-then-count-length
returns-then-count-length c =
    let a = c.args in
    let p = c.loop-i in
    unpacked-other a.size a.delta a.length a.payload.now p.i (to_z w32 p.part-bits) p.begun p.count (to_z w32 p.sum-bits) p.exact p.invariant.2 (omega (arith, c.bytes-k.ensures)) c.if-begun.false c.if-count-length.true

pub returns : goal.returns
returns c =
    let a = c.args in
    let p = c.loop-i in
    unpacked-all a.size a.delta a.length a.payload.now p.i (to_z w32 p.part-bits) p.begun p.count (to_z w32 p.sum-bits) p.exact p.invariant.2 (omega (arith, c.bytes-k.ensures)) c.if-begun.false c.if-count-length.false

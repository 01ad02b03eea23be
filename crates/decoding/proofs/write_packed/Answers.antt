-- The results before the place stand at the buffer's start, and the total is that of the one that has begun: block by block (`block-next`),
-- and then the rest (`rest-wrote`).
use mathlib.Core.Path.{◌≡◌, refl, sym, ap, ◌∙◌}
use Prim.Native.Nat.{◌+◌, ◌-◌, ◌*◌}
use native.Mathlib.Omega.{arith}
use lib.ListN.{length, take, drop}
use mir.Syntax.{w32}
use mir.Val.{to_z, of_z}
use mir.Facts.{to_z-of_z}
use borrow.Author.Tests.{eqb-true}
use Rattle.steps.specs.declared.Form.TheVariants.{Packed}
use Rattle.steps.specs.Width.{size_of}
use Rattle.payloads.specs.Limits.{packed_size}
use Rattle.payloads.specs.Results.{HasRoom}
use Rattle.payloads.specs.Laws.Totals.{WrittenTotal, total-written-start, total-written-within}
use Rattle.payloads.specs.Laws.Blocks.{not-said, stored-as, block-places, block-limits, block-next, rest-wrote}
use Rattle.decoding.specs.Calls.{as_number}
use Rattle.decoding.proofs.write_packed.Lts as lts
use Rattle.decoding.proofs.write_packed.Reads as reads
use Rattle.decoding.proofs.write_packed.Tie as tie
use Rattle.decoding.proofs.write_packed.Goals as goal

-- the bytes of a number, and of a block
width : (c : lts.After-bytes tie.the-claims reads.Pre reads.Post goal.the-invariant-loop-i goal.the-decreases-loop-i) → c.bytes-k.result ≡ size_of (packed_size c.args.two)
width c = c.bytes-k.ensures ∙ ap size_of c.packed_size.ensures

sixteen : (c : lts.In-loop tie.the-claims reads.Pre reads.Post goal.the-invariant-loop-i goal.the-decreases-loop-i) → (c.loop-i.i + 16 * c.bytes-k.result - c.loop-i.i ≡ size_of (packed_size c.args.two) * 16) × (c.loop-i.i + 16 * c.bytes-k.result ≡ c.loop-i.i + size_of (packed_size c.args.two) * 16)
sixteen c = let w = width c.before.before in (omega arith, omega arith)

-- after a block
next : (c : lts.After-buffer tie.the-claims reads.Pre reads.Post goal.the-invariant-loop-i goal.the-decreases-loop-i) (room : HasRoom (Packed (packed_size c.args.two)) c.args.payload.now (length c.args.buffer.now))
    → WrittenTotal as_number (packed_size c.args.two) c.args.delta c.args.payload.now c.args.buffer.now room (c.loop-i.i + 16 * c.bytes-k.result) (to_z w32 (of_z w32 c.put_block-total.result)) (c.loop-i.o + (16 - c.limits_of-limits.result)) c.put_block-total.new.buffer
next c room =
    let a = c in
    let p = c.loop-i in
    let b = take (p.i + 16 * c.bytes-k.result - p.i) (drop p.i a.args.payload.now) in
    let v = stored-as (packed_size a.args.two) b p.o p.buffer c.put_block-total.new.buffer refl refl (sym (to_z-of_z {w = w32} (record { sfits = c.put_block-total.type_inv }))) c.put_block-total.ensures in
    block-next as_number (λ x. refl) (packed_size a.args.two) a.args.delta a.args.payload.now a.args.buffer.now room p.i (p.i + 16 * c.bytes-k.result - p.i) (omega arith) (to_z w32 p.total-bits) p.o p.buffer (p.invariant.1 room) 16 (sixteen c.before.before.before.before.before).0 c.limits_of-limits.result c.limits_of-limits.ensures
    (p.i + 16 * c.bytes-k.result) c.put_block-total.new.buffer (to_z w32 (of_z w32 c.put_block-total.result)) (sixteen c.before.before.before.before.before).1 v

pub loop-i-init : goal.loop-i-init
loop-i-init c = let a = c.args in (omega arith, (λ room. total-written-start as_number (packed_size a.two) a.delta a.payload.now a.buffer.now room))

pub put_block-total-requires : goal.put_block-total-requires
put_block-total-requires c =
    let a = c in
    let p = c.loop-i in (
      (λ q. sym c.limits_of-limits.ensures ∙ eqb-true c.limits_of-limits.result 0 q),
      block-places as_number (λ x. refl) (packed_size a.args.two) a.args.delta a.args.payload.now a.args.buffer.now a.requires p.i (p.i + 16 * c.bytes-k.result - p.i) (omega arith) (to_z w32 p.total-bits) p.o p.buffer (p.invariant.1 a.requires),
    )

pub overflow_sub-o : goal.overflow_sub-o
overflow_sub-o c =
    let a = c in
    let p = c.loop-i in
    block-limits as_number (λ x. refl) (packed_size a.args.two) a.args.delta a.args.payload.now a.args.buffer.now a.requires p.i (p.i + 16 * c.bytes-k.result - p.i) (omega arith) (to_z w32 p.total-bits) p.o p.buffer (p.invariant.1 a.requires) 16 (sixteen c.before.before.before.before.before.before).0 c.limits_of-limits.result c.limits_of-limits.ensures

pub overflow_add-o : goal.overflow_add-o
overflow_add-o c =
    let a = c in
    let n = total-written-within as_number (packed_size a.args.two) a.args.delta a.args.payload.now a.args.buffer.now a.requires (c.loop-i.i + 16 * c.bytes-k.result) (to_z w32 (of_z w32 c.put_block-total.result)) (c.loop-i.o + (16 - c.limits_of-limits.result)) c.put_block-total.new.buffer (next c.before a.requires) in
    omega arith

pub loop-i-preserved : goal.loop-i-preserved
loop-i-preserved c = (omega arith, next c.before)

pub write_block-requires : goal.write_block-requires
write_block-requires c =
    let a = c in
    let p = c.loop-i in (
      not-said (packed_size a.args.two) (take (length a.args.payload.now - p.i) (drop p.i a.args.payload.now)),
      block-places as_number (λ x. refl) (packed_size a.args.two) a.args.delta a.args.payload.now a.args.buffer.now a.requires p.i (length a.args.payload.now - p.i) (omega arith) (to_z w32 p.total-bits) p.o p.buffer (p.invariant.1 a.requires),
    )

pub returns : goal.returns
returns c =
    let a = c in
    let p = c.loop-i in
    rest-wrote as_number (λ x. refl) (packed_size a.args.two) a.args.delta a.args.payload.now a.args.buffer.now a.requires p.i (length a.args.payload.now - p.i) (omega arith) (to_z w32 p.total-bits) p.o p.buffer (p.invariant.1 a.requires) refl _ c.write_block.result c.write_block.ensures

-- The totals of the numbers before the place are stored (`stored_next`), each where there is room for it.
use mathlib.Core.Path.{◌≡◌, sym, ap, subst, ◌∙◌}
use mathlib.Core.Bool.{Bool, not, ◌&&◌}
use Prim.Native.Nat.{ℕ, ◌+◌, ◌*◌, ◌/◌, ◌≤◌, ◌<◌}
use native.Mathlib.Omega.{arith}
use lib.ListN.{length}
use mir.Syntax.{w32}
use mir.Val.{to_z, of_z}
use mir.Facts.{to_z-of_z}
use Rattle.steps.specs.declared.Size.{Size}
use Rattle.steps.specs.Width.{size_of, upper, lower}
use Rattle.steps.specs.Delta.{plus_delta}
use Rattle.steps.specs.Packing.{is_limit}
use Rattle.payloads.specs.Limits.{packed_size}
use Rattle.payloads.specs.Blocks.{count_in, block_number}
use Rattle.payloads.specs.Laws.Blocks.{number-inside, number-filled, none-limit, quick-limit, stored-start, stored_next}
use Rattle.decoding.proofs.write_block.Lts as lts
use Rattle.decoding.proofs.write_block.Reads as reads
use Rattle.decoding.proofs.write_block.Tie as tie
use Rattle.decoding.proofs.write_block.Goals as goal

-- the bytes of a number, and how many numbers there are
width : (c : lts.After-bytes tie.the-claims reads.Pre reads.Post goal.the-invariant-loop-i goal.the-decreases-loop-i) → c.bytes-k.result ≡ size_of (packed_size c.args.two)
width c = c.bytes-k.ensures ∙ ap size_of c.packed_size-size.ensures

count : (c : lts.After-bytes tie.the-claims reads.Pre reads.Post goal.the-invariant-loop-i goal.the-decreases-loop-i) → length c.args.block.now / c.bytes-k.result ≡ count_in (packed_size c.args.two) c.args.block.now
count c = ap (λ (n : ℕ). length c.args.block.now / n) (width c)

-- a number is left, and its bytes are inside
left : (c : lts.In-loop tie.the-claims reads.Pre reads.Post goal.the-invariant-loop-i goal.the-decreases-loop-i) → c.loop-i.i < count_in (packed_size c.args.two) c.args.block.now
left c = subst (λ (n : ℕ). c.loop-i.i < n) (count c.before.before) (omega arith)

inside : (c : lts.In-loop tie.the-claims reads.Pre reads.Post goal.the-invariant-loop-i goal.the-decreases-loop-i) → c.bytes-k.result * c.loop-i.i + c.bytes-k.result ≤ length c.args.block.now
inside c = let a = c.args in rw (width c.before.before) (number-inside (packed_size a.two) a.block.now c.loop-i.i (left c))

-- the number that was read, and whether it is a limit
number : (c : lts.After-number_at tie.the-claims reads.Pre reads.Post goal.the-invariant-loop-i goal.the-decreases-loop-i) → to_z w32 (of_z w32 c.number_at-number.result) ≡ block_number (packed_size c.args.two) c.args.block.now c.loop-i.i
number c =
    let a = c.args in
    to_z-of_z {w = w32} (record { sfits = c.number_at-number.type_inv }) ∙ c.number_at-number.ensures
    ∙ number-filled (packed_size a.two) c.packed_size-size.result a.block.now c.bytes-k.result c.loop-i.i c.packed_size-size.ensures (width c.before.before.before.before) (left c.before.before)

limit : (c : lts.After-is_limit tie.the-claims reads.Pre reads.Post goal.the-invariant-loop-i goal.the-decreases-loop-i) → is_limit (upper (packed_size c.args.two)) (lower (packed_size c.args.two)) (block_number (packed_size c.args.two) c.args.block.now c.loop-i.i) ≡ (not c.args.quick && c.is_limit.result)
limit c =
    let a = c in
    let z = packed_size a.args.two in
    let i = c.loop-i.i in
    let e = c.is_limit.ensures ∙ ap (λ (y : Size). is_limit (upper y) (lower y) (to_z w32 (of_z w32 c.number_at-number.result))) c.packed_size-size.ensures ∙ ap (is_limit (upper z) (lower z)) (number c.before.before) in
    sym (ap (λ (l : Bool). not a.args.quick && l) e ∙ quick-limit a.args.quick (is_limit (upper z) (lower z) (block_number z a.args.block.now i)) (λ q. none-limit z a.args.block.now (count_in z a.args.block.now) i (a.requires.0 q) (left c.before.before.before.before)))

pub loop-i-init : goal.loop-i-init
loop-i-init c = let a = c.args in (omega arith, stored-start (packed_size a.two) a.delta a.block.now (to_z w32 (of_z w32 a.begun)) a.from a.buffer.now)

pub loop-i-preserved : goal.loop-i-preserved
loop-i-preserved c =
    let a = c.args in
    let p = c.loop-i in
    let z = packed_size a.two in
    let y = to_z w32 (of_z w32 c.add_delta-sum.result) in
    let s = to_z-of_z {w = w32} (record { sfits = c.add_delta-sum.type_inv }) ∙ c.add_delta-sum.ensures ∙ ap (plus_delta (to_z w32 p.total-bits)) (number c.before.before.before.before.before) in
    let t = to_z-of_z {w = w32} (record { sfits = c.total_after-total.type_inv }) ∙ c.total_after-total.ensures in (
      omega arith,
      rw (c.ended_at-o.ensures, t) (stored_next z a.delta a.block.now (to_z w32 (of_z w32 a.begun)) a.from a.buffer.now p.i p.o (to_z w32 p.total-bits) p.buffer p.invariant.1 y s _ (limit c.before.before.before)),
    )

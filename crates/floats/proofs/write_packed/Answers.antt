-- The quotients of the results before the place stand at the buffer's start, and the total is that of the one that has begun
-- (`total-written-done`); each result is exact since all are.
use mathlib.Core.Path.{◌≡◌, sym, ap, subst, ◌∙◌}
use mathlib.Core.Bool.{true}
use Prim.Native.Nat.{◌+◌, ◌≤◌}
use native.Mathlib.Omega.{arith}
use lib.ListN.{length}
use mir.Syntax.{w32}
use mir.Val.{to_z, of_z}
use mir.Facts.{to_z-of_z}
use Rattle.numbers.specs.BigEndian.{signed_at}
use Rattle.steps.specs.declared.Size.{Size}
use Rattle.steps.specs.declared.Form.TheVariants.{Packed}
use Rattle.steps.specs.Width.{width_of, upper, lower}
use Rattle.steps.specs.Delta.{plus_delta}
use Rattle.steps.specs.Packing.{is_limit}
use Rattle.payloads.specs.Results.{HasRoom, Wrote, ResultsExact}
use Rattle.payloads.specs.Laws.Packed.{part-first}
use Rattle.payloads.specs.Laws.Totals.{total-written-start, total-written-length, total-written-more, total-written-room, total-written-exact, total-written-done, total-written-end}
use Rattle.payloads.specs.Exact.{exact}
use Rattle.floats.specs.Steps.{bits_by}
use Rattle.floats.proofs.write_packed.Lts as lts
use Rattle.floats.proofs.write_packed.Reads as reads
use Rattle.floats.proofs.write_packed.Tie as tie
use Rattle.floats.proofs.write_packed.Goals as goal

-- the payload's results have room, and are exact
has : (c : lts.At-loop tie.the-claims reads.Pre reads.Post goal.the-invariant-loop-i goal.the-decreases-loop-i) → HasRoom (Packed c.packed_size-size.result) c.args.payload.now (length c.args.buffer.now) × ResultsExact (Packed c.packed_size-size.result) c.args.delta c.args.payload.now
has c = let a = c in subst (λ (z : Size). HasRoom (Packed z) a.args.payload.now (length a.args.buffer.now) × ResultsExact (Packed z) a.args.delta a.args.payload.now) (sym c.packed_size-size.ensures) (a.requires.0, a.requires.1)

-- the number that was read, and the total with it
number : (c : lts.After-is_limit tie.the-claims reads.Pre reads.Post goal.the-invariant-loop-i goal.the-decreases-loop-i) → to_z w32 (of_z w32 c.number_at-number.result) ≡ signed_at (width_of c.packed_size-size.result) c.args.payload.now c.loop-i.i
number c = to_z-of_z {w = w32} (record { sfits = c.number_at-number.type_inv }) ∙ c.number_at-number.ensures ∙ part-first c.packed_size-size.result c.args.payload.now c.loop-i.i (let e = c.bytes-k.ensures in omega arith)

total : (c : lts.After-is_limit tie.the-claims reads.Pre reads.Post goal.the-invariant-loop-i goal.the-decreases-loop-i) → to_z w32 (of_z w32 c.add_delta-total.result) ≡ plus_delta (to_z w32 c.loop-i.total-bits) (signed_at (width_of c.packed_size-size.result) c.args.payload.now c.loop-i.i)
total c = to_z-of_z {w = w32} (record { sfits = c.add_delta-total.type_inv }) ∙ c.add_delta-total.ensures ∙ ap (plus_delta (to_z w32 c.loop-i.total-bits)) (number c)

limit : (c : lts.After-is_limit tie.the-claims reads.Pre reads.Post goal.the-invariant-loop-i goal.the-decreases-loop-i) → is_limit (upper c.packed_size-size.result) (lower c.packed_size-size.result) (signed_at (width_of c.packed_size-size.result) c.args.payload.now c.loop-i.i) ≡ c.is_limit.result
limit c = let z = c.packed_size-size.result in sym (c.is_limit.ensures ∙ ap (is_limit (upper z) (lower z)) (number c))

-- there is room for a result, and it is exact
has_room : (c : lts.Then1 tie.the-claims reads.Pre reads.Post goal.the-invariant-loop-i goal.the-decreases-loop-i) → (c.loop-i.o + 1 ≤ length c.loop-i.buffer) × (length c.loop-i.buffer ≡ length c.args.buffer.now) × (exact (to_z w32 (of_z w32 c.add_delta-total.result)) ≡ true)
has_room c =
    let a = c in
    let z = c.packed_size-size.result in
    let e = c.bytes-k.ensures in
    let p = c.loop-i in
    let r = has c.before.before.before.before.before.before in
    let w = p.invariant.1 r.0 in
    let l = limit c.before ∙ c.if-not-is_limit.true in (
      total-written-room (bits_by a.args.divisor) z a.args.delta a.args.payload.now a.args.buffer.now r.0 p.i (to_z w32 p.total-bits) p.o p.buffer w (omega arith),
      total-written-length (bits_by a.args.divisor) z a.args.delta a.args.payload.now a.args.buffer.now r.0 p.i (to_z w32 p.total-bits) p.o p.buffer w,
      total-written-exact (bits_by a.args.divisor) z a.args.delta a.args.payload.now a.args.buffer.now r.0 p.i (to_z w32 p.total-bits) p.o p.buffer w (omega arith) (to_z w32 (of_z w32 c.add_delta-total.result)) (total c.before) l r.1,
    )

pub loop-i-init : goal.loop-i-init
loop-i-init c = let a = c.args in (omega arith, (λ room. total-written-start (bits_by a.divisor) c.packed_size-size.result a.delta a.payload.now a.buffer.now room))

pub quotient_bits-requires : goal.quotient_bits-requires
quotient_bits-requires c = ((has_room c.before).2, c.requires.2)

pub offset_bounds-buffer-o : goal.offset_bounds-buffer-o
offset_bounds-buffer-o c = let r = has_room c.before.before in omega (arith, r.0, r.1)

pub bounds-buffer-o : goal.bounds-buffer-o
bounds-buffer-o c = let r = has_room c.before.before in omega (arith, r.0, r.1)

pub overflow_add-o : goal.overflow_add-o
overflow_add-o c = let r = has_room c.before.before in omega (arith, r.0, r.1)

pub loop-i-preserved-then-not-is_limit : goal.loop-i-preserved-then-not-is_limit
loop-i-preserved-then-not-is_limit c =
    let a = c in
    let z = c.packed_size-size.result in
    let e = c.bytes-k.ensures in
    let p = c.loop-i in
    let o = to_z-of_z {w = w32} {z = c.add_delta-total.result} (record { sfits = c.add_delta-total.type_inv }) in
    let t = to_z-of_z {w = w32} (record { sfits = c.total_after-total.type_inv }) ∙ c.total_after-total.ensures in (
      omega arith,
      (λ room. rw (e, t) (total-written-done (bits_by a.args.divisor) z a.args.delta a.args.payload.now a.args.buffer.now room p.i (to_z w32 p.total-bits) p.o p.buffer (p.invariant.1 room) (omega arith) (to_z w32 (of_z w32 c.add_delta-total.result)) (total c.before.before.before.before) (limit c.before.before.before.before ∙ c.if-not-is_limit.true)
          (rw o (record { sfits = c.add_delta-total.type_inv })) c.quotient_bits.result 0 c.quotient_bits.ensures)),
    )

pub loop-i-preserved : goal.loop-i-preserved
loop-i-preserved c =
    let a = c in
    let z = c.packed_size-size.result in
    let e = c.bytes-k.ensures in
    let p = c.loop-i in (
      omega arith,
      (λ room. rw e (total-written-more (bits_by a.args.divisor) z a.args.delta a.args.payload.now a.args.buffer.now room p.i (to_z w32 p.total-bits) p.o p.buffer (p.invariant.1 room) (omega arith) (to_z w32 (of_z w32 c.add_delta-total.result)) (total c.before.before) (limit c.before.before ∙ c.if-not-is_limit.false))),
    )

pub returns : goal.returns
returns c =
    let a = c in
    let e = c.bytes-k.ensures in
    let p = c.loop-i in
    let r = has c.before.before in
    subst (λ (z : Size). Wrote (bits_by a.args.divisor) (Packed z) a.args.delta a.args.payload.now a.args.buffer.now p.buffer) c.packed_size-size.ensures
    (total-written-end (bits_by a.args.divisor) c.packed_size-size.result a.args.delta a.args.payload.now a.args.buffer.now r.0 p.i (to_z w32 p.total-bits) p.o p.buffer (p.invariant.1 r.0) (omega arith))

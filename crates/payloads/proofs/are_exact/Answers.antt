-- The total tells of each result, so that those before the place are judged (`summed-next`), and at the end all are (`summed-end`).
use Rattle.std.proofs.Common.{◌≡◌, ◌+◌, cond, sym, ap, ◌∙◌, arith, to_z-of_z, w32, to_z, of_z}
use mathlib.Core.Option.{some}
use Rattle.numbers.specs.BigEndian.{signed_at}
use Rattle.steps.specs.declared.Size.{Size}
use Rattle.steps.specs.declared.Form.TheVariants.{Packed}
use Rattle.steps.specs.Width.{width_of, upper, lower}
use Rattle.steps.specs.Delta.{plus_delta}
use Rattle.steps.specs.Packing.{is_limit}
use Rattle.steps.specs.Payload.{read_in}
use Rattle.payloads.specs.Laws.Totals.{summed-start, summed-next, summed-end}
use Rattle.payloads.proofs.are_exact.Lts as lts
use Rattle.payloads.proofs.are_exact.Reads as reads
use Rattle.payloads.proofs.are_exact.Tie as tie
use Rattle.payloads.proofs.are_exact.Goals as goal

-- the number that was read, and the total with it
number : (c : lts.After-is_limit tie.the-claims reads.Pre reads.Post goal.the-invariant-loop-i goal.the-decreases-loop-i) → to_z w32 (of_z w32 c.number_at-number.result) ≡ signed_at (width_of c.packed_size-size.result) c.args.payload.now c.loop-i.i
number c = to_z-of_z {w = w32} (record { sfits = c.number_at-number.type_inv }) ∙ c.number_at-number.ensures

total : (c : lts.After-is_limit tie.the-claims reads.Pre reads.Post goal.the-invariant-loop-i goal.the-decreases-loop-i) → to_z w32 (of_z w32 c.add_delta-sum.result) ≡ plus_delta (to_z w32 c.loop-i.total-bits) (signed_at (width_of c.packed_size-size.result) c.args.payload.now c.loop-i.i)
total c = to_z-of_z {w = w32} (record { sfits = c.add_delta-sum.type_inv }) ∙ c.add_delta-sum.ensures ∙ ap (plus_delta (to_z w32 c.loop-i.total-bits)) (number c)

limit : (c : lts.After-is_limit tie.the-claims reads.Pre reads.Post goal.the-invariant-loop-i goal.the-decreases-loop-i) → is_limit (upper c.packed_size-size.result) (lower c.packed_size-size.result) (signed_at (width_of c.packed_size-size.result) c.args.payload.now c.loop-i.i) ≡ c.is_limit-limit.result
limit c = let z = c.packed_size-size.result in sym (c.is_limit-limit.ensures ∙ ap (is_limit (upper z) (lower z)) (number c))

pub loop-i-init : goal.loop-i-init
loop-i-init c = let a = c.args in (omega arith, (λ l e. (0, summed-start c.packed_size-size.result a.delta a.payload.now l e)))

pub loop-i-preserved : goal.loop-i-preserved
loop-i-preserved c =
    let a = c.args in
    let z = c.packed_size-size.result in
    let k = c.bytes-k.ensures in
    let p = c.loop-i in
    let y = to_z w32 (of_z w32 c.add_delta-sum.result) in
    let o = to_z-of_z {w = w32} {z = c.add_delta-sum.result} (record { sfits = c.add_delta-sum.type_inv }) in
    let t = to_z-of_z {w = w32} (record { sfits = c.total_after-total.type_inv }) ∙ c.total_after-total.ensures in (
      omega arith,
      (λ l e. let w = p.invariant.1 l e in (w.0 + cond c.is_limit-limit.result 0 1, rw (k, c.is_exact.ensures, t) (summed-next z a.delta a.payload.now l e p.i w.0 p.exact (to_z w32 p.total-bits) w.1 (omega arith) y (total c.before.before.before) (rw o (record { sfits = c.add_delta-sum.type_inv })) c.is_limit-limit.result (limit c.before.before.before)))),
    )

pub returns : goal.returns
returns c l e =
    let a = c.args in
    let z = c.packed_size-size.result in
    let k = c.bytes-k.ensures in
    let p = c.loop-i in
    let f : read_in (Packed c.packed_size-size.result) a.payload.now ≡ some l = ap (λ (t : Size). read_in (Packed t) a.payload.now) c.packed_size-size.ensures ∙ e in
    let w = p.invariant.1 l f in
    (summed-end z a.delta a.payload.now l f p.i w.0 p.exact (to_z w32 p.total-bits) w.1 (omega arith)).1

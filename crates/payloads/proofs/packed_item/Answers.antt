-- The packed result from here, with the sum so far, is the one from the item's start.
use Rattle.std.proofs.Common.{◌≡◌, ◌+◌, ◌≤◌, Bool, true, cond, ltb, length, pos, sym, ap, ◌∙◌, arith, to_z-of_z, w32, to_z, le-ltb, lt-ltb}
use Rattle.steps.specs.declared.Form.TheVariants.{Packed}
use Rattle.steps.specs.declared.Turn.{Turn}
use Rattle.steps.specs.Width.{size_of}
use Rattle.steps.specs.Steps.{turn_of}
use Rattle.steps.proofs.Laws.Numbers.{size-pos}
use Rattle.payloads.specs.declared.Item.TheVariants.{Wrong, End}
use Rattle.payloads.specs.Items.{item_at}
use Rattle.payloads.specs.Laws.Items.{result_at, next, result-turn, result-end, packed-item}
use Rattle.payloads.proofs.packed_item.Lts as lts
use Rattle.payloads.proofs.packed_item.Reads as reads
use Rattle.payloads.proofs.packed_item.Tie as tie
use Rattle.payloads.proofs.packed_item.Goals as goal

room : (c : lts.After-unpack_one tie.the-claims reads.Pre reads.Post goal.the-invariant-loop-i goal.the-decreases-loop-i) → c.loop-i.i + size_of c.args.size ≤ length c.args.payload.now
room c = omega (arith, c.bytes-k.ensures)

-- the item, after the turn that was taken
turned : (c : lts.After-unpack_one tie.the-claims reads.Pre reads.Post goal.the-invariant-loop-i goal.the-decreases-loop-i)
    → item_at (Packed c.args.size) c.args.payload.now c.args.at
    ≡ next c.args.size c.unpack_one.result c.args.payload.now (c.loop-i.i + size_of c.args.size)
turned c =
    let a = c.args in
    let p = c.loop-i in
    let q = to_z-of_z {w = w32} (record { sfits = c.number_at-number.type_inv }) ∙ c.number_at-number.ensures in
    let e = c.unpack_one.ensures ∙ ap (turn_of a.size (to_z w32 p.sum-bits)) q in
    sym p.invariant.2 ∙ result-turn a.size a.payload.now (to_z w32 p.sum-bits) (ltb a.at p.i) p.i (room c)
    ∙ ap (λ (t : Turn). next a.size t a.payload.now (p.i + size_of a.size)) (sym e)

-- where too few bytes are left, a result that has begun is unfinished
ended : (c : lts.After-loop tie.the-claims reads.Pre reads.Post goal.the-invariant-loop-i goal.the-decreases-loop-i) → item_at (Packed c.args.size) c.args.payload.now c.args.at ≡ cond (ltb c.args.at c.loop-i.i) Wrong End
ended c =
    let a = c.args in
    let p = c.loop-i in
    sym p.invariant.2 ∙ result-end a.size a.payload.now (to_z w32 p.sum-bits) (ltb a.at p.i) p.i (omega (arith, c.bytes-k.ensures))

pub loop-i-init : goal.loop-i-init
loop-i-init c =
    let a = c.args in
    (omega arith, c.requires, ap (λ (b : Bool). result_at a.size a.payload.now (pos 0) b a.at) (le-ltb a.at a.at (omega arith)) ∙ sym (packed-item a.size a.payload.now a.at))

pub returns-in-Done : goal.returns-in-Done
returns-in-Done c =
    let k = c.before.before in
    let a = k.args in
    let e = k.bytes-k.ensures in
    let o = size-pos a.size in
    let z = to_z-of_z {w = w32} {z = c.in-Done.s} (record { sfits = omega arith }) in
    let t = turned k ∙ ap (λ (t : Turn). next a.size t a.payload.now (k.loop-i.i + size_of a.size)) c.in-Done.is in
    rw (e, z) (sym t)

pub returns-in-Wrong : goal.returns-in-Wrong
returns-in-Wrong c =
    let k = c.before.before in
    let a = k.args in
    sym (turned k ∙ ap (λ (t : Turn). next a.size t a.payload.now (k.loop-i.i + size_of a.size)) c.in-Wrong.is)

pub loop-i-preserved : goal.loop-i-preserved
loop-i-preserved c =
    let k = c.before.before in
    let a = k.args in
    let e = k.bytes-k.ensures in
    let o = size-pos a.size in
    let z = to_z-of_z {w = w32} {z = c.in-More.s} (record { sfits = omega arith }) in
    let l : ltb a.at (k.loop-i.i + size_of a.size) ≡ true = lt-ltb a.at (k.loop-i.i + size_of a.size) (omega arith) in
    let t = turned k ∙ ap (λ (t : Turn). next a.size t a.payload.now (k.loop-i.i + size_of a.size)) c.in-More.is in
    (omega arith, omega arith, rw (e, z, l) (sym t))

pub returns-then-at-i : goal.returns-then-at-i
returns-then-at-i c =
    let a = c.args in
    let p = c.loop-i in
    sym (ended c.before.before ∙ rw (lt-ltb a.at p.i c.if-at-i.true))

pub returns : goal.returns
returns c =
    let a = c.args in
    let p = c.loop-i in
    sym (ended c.before.before ∙ rw (le-ltb a.at p.i c.if-at-i.false))

-- Each block adds the limits in it; what is left behind the last block is added at the end.
use Rattle.std.proofs.Common.{◌≡◌, ℕ, ◌+◌, ◌-◌, refl, ap, ◌∙◌, arith}
use Rattle.payloads.specs.Limits.{packed_size, limits_in}
use Rattle.payloads.specs.Laws.Limits.{limits-few, limits-after}
use Rattle.payloads.proofs.count_limits.Lts as lts
use Rattle.payloads.proofs.count_limits.Reads as reads
use Rattle.payloads.proofs.count_limits.Tie as tie
use Rattle.payloads.proofs.count_limits.Goals as goal

-- with a block more
more : (c : lts.After-limits_in tie.the-claims reads.Pre reads.Post goal.the-invariant-loop-i goal.the-decreases-loop-i) → c.loop-i.limits + c.limits_in.result ≡ limits_in (packed_size c.args.two) c.args.payload.now 0 (c.loop-i.i + 256)
more c =
    let a = c.args in
    let p = c.loop-i in
    let e = p.invariant.1 in
    let f = c.limits_in.ensures ∙ ap (λ (at : ℕ). limits_in (packed_size a.two) a.payload.now at 256) c.place_of.ensures in
    omega (arith, limits-after (packed_size a.two) a.payload.now p.i 256)

-- with the rest
rest : (c : lts.After-limits_in2 tie.the-claims reads.Pre reads.Post goal.the-invariant-loop-i goal.the-decreases-loop-i) → c.loop-i.limits + c.limits_in-2.result ≡ limits_in (packed_size c.args.two) c.args.payload.now 0 c.args.count
rest c =
    let a = c.args in
    let p = c.loop-i in
    let e = p.invariant.1 in
    let f = c.limits_in-2.ensures ∙ ap (λ (at : ℕ). limits_in (packed_size a.two) a.payload.now at (a.count - p.i)) c.place_of-2.ensures in
    let k : p.i + (a.count - p.i) ≡ a.count = omega (arith, p.invariant.0) in
    let q = ap (limits_in (packed_size a.two) a.payload.now 0) k in
    omega (arith, limits-after (packed_size a.two) a.payload.now p.i (a.count - p.i))

pub loop-i-init : goal.loop-i-init
unfolding limits_in
loop-i-init c = (omega arith, refl)

pub overflow_add-limits : goal.overflow_add-limits
overflow_add-limits c = let a = c.args in let e = more c.before in omega (arith, limits-few (packed_size a.two) a.payload.now 0 (c.loop-i.i + 256), c.loop-i.invariant.0)

pub loop-i-preserved : goal.loop-i-preserved
loop-i-preserved c = (omega arith, more c.before)

pub overflow_add-result : goal.overflow_add-result
overflow_add-result c = let a = c.args in let e = rest c.before in omega (arith, limits-few (packed_size a.two) a.payload.now 0 a.count)

pub returns : goal.returns
returns c = rest c.before

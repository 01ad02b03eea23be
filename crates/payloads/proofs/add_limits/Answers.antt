-- Each turn adds one number: 1 if it is a limit.
use Rattle.std.proofs.Common.{◌≡◌, ◌+◌, refl, ap, ◌∙◌, arith}
use Rattle.payloads.specs.Limits.{packed_size, limits_in, limit_at}
use Rattle.payloads.specs.Laws.Limits.{limits-few, limits-more}
use Rattle.payloads.proofs.add_limits.Lts as lts
use Rattle.payloads.proofs.add_limits.Reads as reads
use Rattle.payloads.proofs.add_limits.Tie as tie
use Rattle.payloads.proofs.add_limits.Goals as goal

-- with the number that was read
more : (c : lts.After-limit_at tie.the-claims reads.Pre reads.Post goal.the-invariant-loop-k goal.the-decreases-loop-k) → c.loop-k.limits + c.limit_at-limits.result ≡ limits_in (packed_size c.args.two) c.args.payload.now c.args.at (c.loop-k.k + 1)
more c =
    let a = c.args in
    let p = c.loop-k in
    let e = p.invariant.1 in
    let f = c.limit_at-limits.ensures ∙ ap (λ (i : _). limit_at (packed_size a.two) a.payload.now (a.at + i)) c.place_of.ensures in
    omega (arith, limits-more (packed_size a.two) a.payload.now a.at p.k)

pub loop-k-init : goal.loop-k-init
unfolding limits_in
loop-k-init c = (omega arith, refl)

pub overflow_add-limits : goal.overflow_add-limits
overflow_add-limits c =
    let a = c in
    let p = c.loop-k in
    let e = more c.before in
    let i = p.invariant.0 in
    let h = a.requires.1 in
    omega (arith, limits-few (packed_size a.args.two) a.args.payload.now a.args.at (p.k + 1))

pub loop-k-preserved : goal.loop-k-preserved
loop-k-preserved c = (omega arith, more c.before)

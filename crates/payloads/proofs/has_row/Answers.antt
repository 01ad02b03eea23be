-- Where each block has a number that is no limit, no row of limits is long (`broken-more`, `broken-rows`).
use Rattle.std.proofs.Common.{ℕ, ap, ◌∙◌, arith}
use Rattle.payloads.specs.Limits.{packed_size, limits_in}
use Rattle.payloads.specs.Laws.Limits.{broken-start, broken-more, broken-rows}
use Rattle.payloads.proofs.has_row.Goals as goal

pub loop-i-init : goal.loop-i-init
loop-i-init c = let a = c.args in (omega arith, broken-start a.two a.payload.now)

pub loop-i-preserved : goal.loop-i-preserved
loop-i-preserved c =
    let a = c.args in
    let p = c.loop-i in
    let f = c.limits_in.ensures ∙ ap (λ (at : ℕ). limits_in (packed_size a.two) a.payload.now at 256) c.place_of.ensures in
    (omega arith, broken-more a.two a.payload.now p.i p.invariant.1 (λ q. c.if-limits_in-eq256.false (f ∙ q)))

pub returns : goal.returns
returns c e = let a = c.args in let p = c.loop-i in broken-rows a.two a.payload.now p.i a.count p.invariant.1 p.invariant.0 (omega (arith, p.invariant.0))

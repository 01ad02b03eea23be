-- One sum moves both limits side by side, so that one comparison finds either.
use Rattle.std.proofs.Common.{◌+◌, ◌<◌, sym, arith}
use Rattle.payloads.specs.Laws.Limits.{limit-upper, limit-lower, limit-none}
use Rattle.payloads.proofs.two_at_limit.Goals as goal

pub returns-then-moved-eq0 : goal.returns-then-moved-eq0
returns-then-moved-eq0 c =
    let a = c.args in
    let low : c.from-2.result < 256 = omega (arith, c.from-2.ensures, c.type_inv.payload a.at) in
    let high : c.from.result < 256 = omega (arith, c.from.ensures, c.type_inv.payload (a.at + 1)) in
    sym (limit-upper a.payload.now a.at c.requires c.from-2.result c.from.result (sym c.from-2.ensures) (sym c.from.ensures) low high c.if-moved-eq0.true)

pub returns-then-moved-eq257 : goal.returns-then-moved-eq257
returns-then-moved-eq257 c =
    let a = c.args in
    let low : c.from-2.result < 256 = omega (arith, c.from-2.ensures, c.type_inv.payload a.at) in
    let high : c.from.result < 256 = omega (arith, c.from.ensures, c.type_inv.payload (a.at + 1)) in
    sym (limit-lower a.payload.now a.at c.requires c.from-2.result c.from.result (sym c.from-2.ensures) (sym c.from.ensures) low high c.if-moved-eq257.true)

pub returns-else-moved-eq257 : goal.returns-else-moved-eq257
returns-else-moved-eq257 c =
    let a = c.args in
    let low : c.from-2.result < 256 = omega (arith, c.from-2.ensures, c.type_inv.payload a.at) in
    let high : c.from.result < 256 = omega (arith, c.from.ensures, c.type_inv.payload (a.at + 1)) in
    sym (limit-none a.payload.now a.at c.requires c.from-2.result c.from.result (sym c.from-2.ensures) (sym c.from.ensures) low high c.if-moved-eq0.false c.if-moved-eq257.false)

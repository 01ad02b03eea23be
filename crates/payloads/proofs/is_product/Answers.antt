-- A length by its quotient and its remainder.
use Rattle.std.proofs.Common.{◌%◌, arith}
use borrow.Author.Tests.{ne_eqb}
use Rattle.payloads.specs.Laws.Refusal.{product-part}
use Rattle.payloads.proofs.is_product.Goals as goal

pub returns-else-length-size-eq0 : goal.returns-else-length-size-eq0
returns-else-length-size-eq0 c =
    let a = c.args in
    rw (ne_eqb (a.length % a.size) 0 c.if-length-size-eq0.false) (product-part a.length a.n a.size (omega (arith, c.if-size-eq0.false)) c.if-length-size-eq0.false)

-- The names are judged and counted by their bytes (`names-told`).
use Rattle.std.proofs.Common.{true, false, sym, refl, ◌∙◌, arith}
use Rattle.numbers.specs.Laws.BigEndian.{bytes-of}
use Rattle.payloads.specs.Laws.Refusal.{names-told}
use Rattle.payloads.proofs.names_refusal.Goals as goal

pub returns-then-not-are_names : goal.returns-then-not-are_names
returns-then-not-are_names c =
    let a = c.args in
    let b = bytes-of a.payload.now (λ i. omega (arith, c.shared_slice_known-1.given i)) in
    names-told a.length a.size a.payload.now false _ b (sym c.if-not-are_names.true ∙ c.are_names.ensures) refl

pub returns-then-not-is_product : goal.returns-then-not-is_product
returns-then-not-is_product c =
    let a = c.args in
    let b = bytes-of a.payload.now (λ i. omega (arith, c.shared_slice_known-1.given i)) in
    names-told a.length a.size a.payload.now true false b (sym c.if-not-are_names.false ∙ c.are_names.ensures) (sym c.if-not-is_product.true ∙ c.is_product.ensures)

pub returns : goal.returns
returns c =
    let a = c.args in
    let b = bytes-of a.payload.now (λ i. omega (arith, c.shared_slice_known-1.given i)) in
    names-told a.length a.size a.payload.now true true b (sym c.if-not-are_names.false ∙ c.are_names.ensures) (sym c.if-not-is_product.false ∙ c.is_product.ensures)

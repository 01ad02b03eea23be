-- A number where its bytes are all there, else the end.
use Rattle.std.proofs.Common.{sym, ◌∙◌, arith, to_z-of_z, w32}
use Rattle.steps.specs.declared.Form.TheVariants.{Plain}
use Rattle.payloads.specs.Laws.Items.{item-short, plain-item}
use Rattle.payloads.proofs.plain_item.Goals as goal

pub returns-then-payload-at : goal.returns-then-payload-at
returns-then-payload-at c =
    let a = c.args in
    sym (item-short (Plain a.size) a.payload.now a.at (omega (arith, c.bytes-k.ensures)))

pub returns : goal.returns
returns c =
    let a = c.args in
    let k = c.bytes-k.ensures in
    let v = to_z-of_z {w = w32} (record { sfits = c.number_at.type_inv }) ∙ c.number_at.ensures in
    rw (k, v) (sym (plain-item a.size a.payload.now a.at (omega arith)))

-- Each arm is the reader of its form; at the end there is nothing.
use Rattle.std.proofs.Common.{sym}
use Rattle.payloads.specs.Laws.Items.{item-end}
use Rattle.payloads.proofs.item_at.Goals as goal

pub returns-then-payload-at : goal.returns-then-payload-at
returns-then-payload-at c =
    let a = c.args in
    sym (item-end a.form a.payload.now a.at c.if-payload-at.true)

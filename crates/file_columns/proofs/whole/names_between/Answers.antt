-- Names that are held are read, a value for each byte (`names-pass`); where they are not, there is nothing to pass.
use Rattle.std.proofs.Common.{sym, ◌∙◌, to_z-of_z, w32}
use Rattle.numbers.specs.Ranges.{between}
use Rattle.steps.specs.declared.Form.TheVariants.{Names}
use Rattle.steps.specs.Payload.{held_in}
use Rattle.columns.specs.Table.{elements}
use Rattle.file_columns.specs.Laws.Exits.{ok_number, refused_number}
use Rattle.file_columns.specs.Laws.Passing.{names-pass, refused-pass}
use Rattle.file_columns.proofs.whole.names_between.Goals as goal

pub returns-then-is_ok : goal.returns-then-is_ok
returns-then-is_ok c =
    let a = c in
    let h = rw (to_z-of_z {w = w32} a.ranges.low, to_z-of_z {w = w32} a.ranges.high) at c.items_between.ensures in
    names-pass (between a.args.low a.args.high) a.args.n a.args.size a.args.delta a.args.payload.now (ok_number c.refusal_of.result (sym c.is_ok.ensures.value ∙ c.if-is_ok.true) ∙ c.refusal_of.ensures) c.items_between.result h

pub returns-else-is_ok : goal.returns-else-is_ok
returns-else-is_ok c =
    let a = c in
    c.if-is_ok.false ∙ refused-pass (between a.args.low a.args.high) (elements Names a.args.n a.args.size) a.args.delta (held_in Names a.args.size a.args.payload.now) _ c.refusal_of.ensures (refused_number c.refusal_of.result (sym c.is_ok.ensures.value ∙ c.if-is_ok.false))

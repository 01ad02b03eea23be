-- A byte of a name is in range or not.
use Rattle.std.proofs.Common.{sym, ap, ◌∙◌, to_z-of_z, w32}
use Rattle.steps.specs.declared.Range.TheVariants.{Ascii}
use Rattle.steps.specs.Payload.{in_range}
use Rattle.payloads.specs.Laws.Items.{name-item}
use Rattle.payloads.proofs.name_item.Goals as goal

pub returns-then-is_in : goal.returns-then-is_in
returns-then-is_in c =
    let a = c in
    let v = to_z-of_z {w = w32} (record { sfits = c.number_at-value.type_inv }) ∙ c.number_at-value.ensures in
    let e = ap (in_range Ascii) (sym v) ∙ sym c.is_in.ensures ∙ c.if-is_in.true in
    rw v (sym (name-item a.args.payload.now a.args.at a.requires ∙ rw e))

pub returns : goal.returns
returns c =
    let a = c in
    let v = to_z-of_z {w = w32} (record { sfits = c.number_at-value.type_inv }) ∙ c.number_at-value.ensures in
    let e = ap (in_range Ascii) (sym v) ∙ sym c.is_in.ensures ∙ c.if-is_in.false in
    sym (name-item a.args.payload.now a.args.at a.requires ∙ rw e)

-- Few types fit into the small tables, and types within their limit into the large ones.
use mathlib.Core.Path.{refl, ◌∙◌}
use native.Mathlib.Omega.{arith}
use Rattle.text.specs.Equal.{equal}
use Rattle.fields.specs.Table.{named}
use Rattle.fields.specs.Fields.{find_row, is_required}
use Rattle.counts.proofs.Laws.Steps.{count-named}
use Rattle.counts.proofs.groups_refusal.Goals as goal

pub returns-then-types-le-FEW_TYPES : goal.returns-then-types-le-FEW_TYPES
unfolding find_row is_required equal named
returns-then-types-le-FEW_TYPES c =
    λ es f k few.
    let n = c.unwrap_or-types.ensures ∙ count-named f "groupList" refl refl (λ o p. c.length_at.ensures.is o p) in
    let l = c.if-types-le-FEW_TYPES.true in
    c.types_refusal.ensures es f k (omega (arith, n, l), omega (arith, n, l))

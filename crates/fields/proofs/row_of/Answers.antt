-- Only the row of the hint can have the name, and it has it or has it not.
use mathlib.Core.Path.{sym, ◌∙◌}
use native.Mathlib.Omega.{arith}
use Rattle.fields.specs.Laws.Numbers.{hint-found, hint-none, hinted-row}
use Rattle.fields.proofs.row_of.Goals as goal

pub returns-then-n-i : goal.returns-then-n-i
returns-then-n-i c =
    let a = c.args in
    λ f. hint-none f a.n a.first c.requires.1.1.1.1 _ c.hint-i.ensures (λ lt. absurd (omega arith))

pub is_name-requires : goal.is_name-requires
is_name-requires c = (c.requires.0, (c.requires.1.0, hinted-row _ _ _ c.requires.1.1.1.1 (omega arith)))

pub returns-then-not-is_name : goal.returns-then-not-is_name
returns-then-not-is_name c =
    let a = c.args in
    λ f. hint-none f a.n a.first c.requires.1.1.1.1 _ c.hint-i.ensures (λ lt. sym c.is_name.ensures ∙ c.if-not-is_name.true)

pub returns : goal.returns
returns c =
    let a = c.args in
    λ f. hint-found f a.n a.first c.requires.1.1.1.1 _ c.hint-i.ensures (omega arith) (sym c.is_name.ensures ∙ c.if-not-is_name.false)

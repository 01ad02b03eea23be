-- The cells of the column are those that are added.
use Rattle.std.proofs.Common.{◌≡◌, List, ℤ, ap, ◌∙◌, le-leb}
use Rattle.columns.specs.declared.Kind.TheVariants.{Int32}
use Rattle.columns.specs.declared.Wanted.TheVariants.{Only}
use Rattle.file_columns.specs.Cells.{sums_over, sums_of}
use Rattle.file_columns.specs.Laws.Steps.{read-cells}
use Rattle.file_columns.proofs.totals.Goals as goal

pub returns : goal.returns
returns c =
    λ o p n r h.
    read-cells p n c.text_at-part.result (λ x e a. c.text_at-part.ensures.says x e a) (Only Int32) r (λ (xs : List ℤ). c.totals.result ≡ sums_over c.args.types c.args.atoms.now c.args.bonds.now xs)
    (λ k m xs d. c.totals.ensures ∙ ap (sums_of c.args.types c.args.atoms.now c.args.bonds.now) d ∙ rw (le-leb _ _ h.0, le-leb _ _ h.1))

-- The cells of the column are those that are judged.
use Rattle.std.proofs.Common.{◌≡◌, List, ℤ, sym, ap, ◌∙◌, ap₂, to_z-of_z, w32, to_z, of_z}
use Rattle.numbers.specs.Ranges.{between, all_between}
use Rattle.file_columns.specs.Cells.{cells_pass}
use Rattle.values.specs.Laws.Places.{place_none}
use Rattle.values.specs.Integers.{list_in}
use Rattle.file_columns.specs.Columns.{cells_in}
use Rattle.file_columns.specs.Laws.Steps.{read-cells, none_between}
use Rattle.file_columns.proofs.all_between.Goals as goal

pub returns-then-at-eq0 : goal.returns-then-at-eq0
returns-then-at-eq0 c = λ o p r. sym (ap (λ z. all_between c.args.low c.args.high (list_in (cells_in c.args.wanted z))) (place_none p c.if-at-eq0.true) ∙ none_between c.args.low c.args.high)

pub returns : goal.returns
returns c =
    λ o p r.
    read-cells p c.if-at-eq0.false c.text_at-part.result (λ x e a. c.text_at-part.ensures.says x e a) c.args.wanted r (λ (xs : List ℤ). c.all_between.result ≡ all_between c.args.low c.args.high xs)
    (λ k m xs d. c.all_between.ensures ∙ ap (cells_pass (between (to_z w32 (of_z w32 c.args.low)) (to_z w32 (of_z w32 c.args.high)))) d ∙ ap₂ (λ (l h : ℤ). all_between l h xs) (to_z-of_z {w = w32} c.ranges.low) (to_z-of_z {w = w32} c.ranges.high))

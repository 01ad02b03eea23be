-- The row's type is that of a string, and a short string is one; or that of an array of integers, likewise.
use mathlib.Core.Path.{ap, ◌∙◌}
use native.Mathlib.Omega.{arith}
use native.Mathlib.Nat.{pos_of_ne-zero}
use lib.Dec.{lit<}
use Rattle.fields.specs.Types.{plain, array_of}
use Rattle.fields.specs.Numbers.{type_of}
use Rattle.fields.specs.Laws.Numbers.{plain_type, integers-type}
use Rattle.fields.specs.Laws.Steps.{value_as, row-says}
use Rattle.fields.proofs.quick_row.Goals as goal

pub returns-then-code-eq-A_STRING : goal.returns-then-code-eq-A_STRING
returns-then-code-eq-A_STRING c =
    let a = c.args in
    λ h. row-says a.file.now (type_of a.depth) a.n a.first a.row (omega arith) c.cell-code.ensures.is (value_as (type_of a.depth _) (plain 3) (ap (type_of a.depth) c.if-code-eq-A_STRING.true ∙ plain_type a.depth 2 (pos_of_ne-zero c.if-depth-eq0.false) (lit< tt)) (c.quick_end.ensures h))

pub returns-then-code-eq-INTEGERS : goal.returns-then-code-eq-INTEGERS
returns-then-code-eq-INTEGERS c =
    let a = c.args in
    λ h. row-says a.file.now (type_of a.depth) a.n a.first a.row (omega arith) c.cell-code.ensures.is (value_as (type_of a.depth _) (array_of (plain 1)) (ap (type_of a.depth) c.if-code-eq-INTEGERS.true ∙ integers-type a.depth (pos_of_ne-zero c.if-depth-eq0.false)) (c.quick_integers.ensures h))

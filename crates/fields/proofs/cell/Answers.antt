-- A byte inside the table is read; past its end there is none.
use mathlib.Core.List.{List}
use mathlib.Core.Path.{sym, ap, ◌∙◌}
use Prim.Native.Nat.{ℕ, ◌≤◌}
use native.Mathlib.Omega.{arith}
use lib.ListN.{length, get_or, get_or-eq_default}
use lib.Dec.{lit<}
use Rattle.fields.specs.Numbers.{type_table, table_byte}
use Rattle.fields.specs.Laws.Numbers.{table-length}
use Rattle.fields.proofs.cell.Goals as goal

pub returns-then-i-lt-TABLE_SIZE-clause-is : goal.returns-then-i-lt-TABLE_SIZE-clause-is
unfolding table_byte
returns-then-i-lt-TABLE_SIZE-clause-is c = c.from.ensures ∙ ap (λ (l : List ℕ). get_or l c.args.i 0) c.requires

pub returns-else-i-lt-TABLE_SIZE : goal.returns-else-i-lt-TABLE_SIZE
unfolding table_byte
returns-else-i-lt-TABLE_SIZE c =
    let l : length type_table ≤ c.args.i = omega (arith, table-length) in
    record { is = sym (get_or-eq_default type_table 0 l); byte = lit< tt }

-- Each turn packs one row from the two tables. The invariant: the rows that are passed are packed.
use native.Mathlib.Omega.{arith}
use Rattle.heads.proofs.Laws.Table.{kinds-bound, sizes-bound, leads-packed}
use Rattle.heads.proofs.leads.Goals as goal

pub overflow_mul-rows : goal.overflow_mul-rows
overflow_mul-rows c = rw c.kinds-kinds.ensures (omega (arith, kinds-bound c.loop-i.i (omega arith)))

pub overflow_add-rows : goal.overflow_add-rows
overflow_add-rows c =
    rw (c.kinds-kinds.ensures, c.head_sizes-sizes.ensures)
    (omega (arith, kinds-bound c.loop-i.i (omega arith), sizes-bound c.loop-i.i (omega arith)))

pub returns : goal.returns
returns c =
    leads-packed c.loop-i.rows c.loop-i.invariant.0
    (λ k lt. rw (← c.kinds-kinds.ensures, ← c.head_sizes-sizes.ensures) (c.loop-i.invariant.1 k (omega arith)))

-- Each of the lead bytes has its size; values with another are left.
use native.Mathlib.Omega.{arith}
use Rattle.values.specs.Standing.{each}
use Rattle.values.specs.Laws.Standing.{sized-one, sized-two, sized-four}
use Rattle.values.proofs.over_first.Goals as goal

pub returns-then-file-p : goal.returns-then-file-p
returns-then-file-p c = each

pub over_run-requires : goal.over_run-requires
over_run-requires c = (omega arith, sized-one)

pub over_run-requires-in-205 : goal.over_run-requires-in-205
over_run-requires-in-205 c = (omega arith, sized-two)

pub over_run-requires-in-206 : goal.over_run-requires-in-206
over_run-requires-in-206 c = (omega arith, sized-four)

pub returns-in_default : goal.returns-in_default
returns-in_default c = each

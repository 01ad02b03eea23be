-- The word stands at the place, and the number after it; or there is no such line. Assumes nothing.
use mathlib.Core.Path.{◌≡◌, refl, sym, ◌∙◌}
use mathlib.Core.Bool.{true}
use native.Mathlib.Omega.{arith}
use lib.ListN.{drop, length-drop}
use Rattle.text.specs.Equal.{begins}
use Rattle.text.specs.Laws.Equal.{begins-fits}
use Rattle.receipt.specs.Steps.{line_at}
use Rattle.receipt.proofs.line_at.Goals as goal

pub returns-then-not-stands_at : goal.returns-then-not-stands_at
unfolding line_at
returns-then-not-stands_at c = rw (sym c.stands_at.ensures ∙ c.if-not-stands_at.true) refl

pub overflow_add-at : goal.overflow_add-at
overflow_add-at c =
    let a = c.args in
    let stands : begins a.word.now (drop a.at a.bytes.now) ≡ true = sym c.stands_at.ensures ∙ c.if-not-stands_at.false in
    omega (arith, begins-fits a.word.now (drop a.at a.bytes.now) stands, length-drop a.at a.bytes.now)

pub returns : goal.returns
unfolding line_at
returns c = rw (sym c.stands_at.ensures ∙ c.if-not-stands_at.false) c.number_at.ensures

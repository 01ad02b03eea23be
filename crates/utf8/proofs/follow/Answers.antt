-- `utf8::follow` meets its contract: it makes the tests of `due` at one byte. Assumes nothing.
use mathlib.Core.Path.{◌∙◌}
use native.Mathlib.Omega.{arith}
use borrow.Author.Tests.{le-leb, lt-leb}
use Rattle.utf8.specs.Laws.Check.{due-at, due-end}
use Rattle.utf8.proofs.follow.Goals as goal
use Rattle.utf8.proofs.follow.Goals.{then-b-lo-via-then-b-lo, then-b-lo-via-else-b-lo+then-hi-b}

pub returns-then-bytes-at : goal.returns-then-bytes-at
returns-then-bytes-at c = record { by_index = (λ k. due-end _ _ k _ _ c.if-bytes-at.true); forward = tt }

pub returns-then-b-lo : goal.returns-then-b-lo
returns-then-b-lo c = elim c.then-b-lo.branch [
  | then-b-lo-via-then-b-lo w ↦ record { by_index = (λ k. due-at _ _ k _ _ c.if-bytes-at.false ∙ simp (lt-leb _ _ w.if-b-lo.true)); forward = tt }
  | then-b-lo-via-else-b-lo+then-hi-b w ↦ record { by_index = (λ k. due-at _ _ k _ _ c.if-bytes-at.false ∙ simp (le-leb _ _ w.if-b-lo.false, lt-leb _ _ w.if-hi-b.true)); forward = tt }
]

pub returns : goal.returns
returns c = record { by_index = (λ k. due-at _ _ k _ _ c.if-bytes-at.false ∙ simp (le-leb _ _ c.if-b-lo.false, le-leb _ _ c.if-hi-b.false)); forward = omega arith }

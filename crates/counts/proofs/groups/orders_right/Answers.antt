-- Orders lie between 1 and 4.
use mathlib.Core.Path.{sym, ap, ◌∙◌}
use borrow.Author.Tests.{eq-eqb}
use Rattle.counts.specs.Group.{orders_right}
use Rattle.values.specs.Laws.Places.{place_none, place-some}
use Rattle.values.specs.Integers.{integers_in}
use Rattle.counts.proofs.Laws.Group.{none-ordered}
use Rattle.counts.proofs.groups.orders_right.Goals as goal

pub returns-then-at-eq0 : goal.returns-then-at-eq0
returns-then-at-eq0 c = λ o q. rw (eq-eqb _ _ c.if-at-eq0.true) (sym (ap (λ z. orders_right (integers_in z)) (place_none q c.if-at-eq0.true) ∙ none-ordered))

pub returns-else-at-eq0 : goal.returns-else-at-eq0
returns-else-at-eq0 c =
    λ o q.
    let d = place-some q c.if-at-eq0.false in
    c.all_between.ensures d.x d.end d.at ∙ sym (ap (λ z. orders_right (integers_in z)) d.is)

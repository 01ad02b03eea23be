-- The maps of the array are those that are judged.
use mathlib.Core.Path.{sym, ap, ◌∙◌}
use Rattle.fields.specs.Tests.{all}
use Rattle.values.specs.Parts.{items_of, items_in}
use Rattle.values.specs.Laws.Places.{place-some}
use Rattle.counts.specs.Indices.{chains_inside}
use Rattle.counts.proofs.Laws.Indices.{none-judged}
use Rattle.counts.proofs.indices.all_inside.Goals as goal

pub returns-then-at-eq0 : goal.returns-then-at-eq0
returns-then-at-eq0 c = λ o q. none-judged (chains_inside c.args.chains) q c.if-at-eq0.true

pub returns : goal.returns
returns c =
    λ o q.
    let d = place-some q c.if-at-eq0.false in
    let i = c.items_at-part.ensures.says d.x d.end d.at in
    c.inside_from.ensures (items_of d.x) i.end i.all i.counts ∙ sym (ap (λ z. all (chains_inside c.args.chains) (items_in z)) d.is)

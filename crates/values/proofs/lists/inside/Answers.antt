-- Indices lie between 0 and the last of them.
use mathlib.Core.Path.{sym, ap, ◌∙◌}
use Rattle.std.proofs.Common.{eq-eqb}
use mir.Syntax.{w32}
use mir.Facts.{to_z-of_z}
use Rattle.numbers.specs.Ranges.{all_between, all_below}
use Rattle.values.specs.Parts.{items_of}
use Rattle.values.specs.Integers.{integers_of, list_in, integers_in}
use lib.IntN.{ℤ, pos}
use Rattle.values.specs.Laws.Places.{place_none, place-some}
use Rattle.values.specs.Laws.Integers.{all-below, items_keep, none_below}
use Rattle.values.proofs.lists.inside.Goals as goal

pub returns-then-at-eq0 : goal.returns-then-at-eq0
returns-then-at-eq0 c = λ o q. eq-eqb _ _ c.if-at-eq0.true ∙ sym (ap (λ z. all_below c.args.n (list_in (integers_in z))) (place_none q c.if-at-eq0.true) ∙ none_below _)

pub returns-else-at-eq0 : goal.returns-else-at-eq0
returns-else-at-eq0 c =
    λ o q.
    let d = place-some q c.if-at-eq0.false in
    let h = to_z-of_z {w = w32} (record { sfits = c.last_index.type_inv }) ∙ c.last_index.ensures in
    c.all_between.ensures d.x d.end d.at ∙ ap (λ (z : ℤ). all_between (pos 0) z (integers_of (items_of d.x))) h ∙ sym (ap (λ z. all_below c.args.n (list_in (integers_in z))) d.is ∙ all-below c.args.n (items_of d.x) (items_keep d.x d.at.keeps))

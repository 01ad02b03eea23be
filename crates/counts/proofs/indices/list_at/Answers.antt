-- The entries of a map are searched, and another value is stepped over.
use mathlib.Core.Path.{sym, ◌∙◌}
use mathlib.Core.List.{[], ◌∷◌}
use Rattle.heads.specs.declared.Kind.{Kind}
use Rattle.values.specs.Parts.{entries_of}
use Rattle.values.specs.Laws.Heads.{kind-other}
use Rattle.values.specs.Laws.Places.{at_head, at-standing}
use Rattle.counts.proofs.Laws.Group.{map_at}
use Rattle.counts.proofs.Laws.Indices.{list-none}
use borrow.Enum.Refused.{opened}
use Rattle.counts.proofs.indices.list_at.Goals as goal

pub returns-in_default : goal.returns-in_default
returns-in_default c = λ x e a. absurd (at_head a (sym (c.head_at.ensures.rule) ∙ c.in_default.is))

pub returns-in-Map : goal.returns-in-Map
returns-in-Map c =
    λ x e a.
    let m = map_at x a (sym (c.head_at.ensures.rule) ∙ c.in-Some.is) (sym (c.kind_at.ensures.rule) ∙ c.in-Map.is) in
    c.list_from.ensures (entries_of x) e m.all m.counts

pub returns-in_default-kind_at : goal.returns-in_default-kind_at
returns-in_default-kind_at c =
    λ x e a.
    let o = kind-other Kind.Map (Kind.Map ∷ []) c.kind_at.result tt (opened c.in_default-kind_at.in_default-kind_at-own.keys2) in
    list-none x a (sym (c.kind_at.ensures.rule)) o c.no_list-in_default-kind_at.ensures.0 (c.no_list-in_default-kind_at.ensures.1 e (at-standing a))

-- Each kind is a case of the laws of places: a map by its head, else nothing.
use mathlib.Core.Path.{sym, ◌∙◌}
use Rattle.values.specs.Heads.{no_part, head_entries}
use Rattle.values.specs.Laws.Heads.{by-cut, by-head, by-other, kind-other}
use Rattle.values.specs.Laws.Places.{at_head, no-entries, read-entries}
use mathlib.Core.List.{[], ◌∷◌}
use Rattle.heads.specs.declared.Kind.{Kind}
use borrow.Enum.Refused.{opened}
use Rattle.values.proofs.entries_at.Goals as goal

pub returns-in_default : goal.returns-in_default
returns-in_default c = record { table = by-cut _ _ _ no_part head_entries c.head_at.ensures.table c.in_default.is; says = λ x e a. absurd (at_head a (sym (c.head_at.ensures.rule) ∙ c.in_default.is)) }

pub returns-in-Map : goal.returns-in-Map
returns-in-Map c = record { table = by-head _ _ _ no_part head_entries c.head_at.ensures.table c.in-Some.is c.kind_at.ensures.table c.in-Map.is; says = λ x e a. read-entries x a (sym (c.head_at.ensures.rule) ∙ c.in-Some.is) (sym (c.kind_at.ensures.rule) ∙ c.in-Map.is) }

pub returns-in_default-kind_at : goal.returns-in_default-kind_at
returns-in_default-kind_at c =
    let o = kind-other Kind.Map (Kind.Map ∷ []) c.kind_at.result tt (opened c.in_default-kind_at.in_default-kind_at-own.keys2) in
    record { table = by-other _ _ _ no_part head_entries c.head_at.ensures.table c.in-Some.is c.kind_at.ensures.table (rw o); says = λ x e a. no-entries x a (sym (c.kind_at.ensures.rule)) o }

-- Each kind is a case of the laws of places: an integer by its head, else 0.
use mathlib.Core.Path.{sym, ap, ◌∙◌}
use mir.Syntax.{w32}
use mir.Facts.{to_z-of_z}
use Rattle.values.specs.Places.{signed_by}
use lib.IntN.{pos}
use Rattle.values.specs.Heads.{head_integer}
use Rattle.values.specs.Laws.Heads.{by-cut, by-head, by-other, kind-other}
use Rattle.values.specs.Laws.Places.{at_head, no-integer, read-unsigned, read-signed}
use mathlib.Core.List.{[], ◌∷◌}
use Rattle.heads.specs.declared.Kind.{Kind}
use borrow.Enum.Refused.{opened}
use Rattle.values.proofs.integer_at.Goals as goal

pub returns-in_default : goal.returns-in_default
returns-in_default c = record { table = by-cut _ _ _ (pos 0) (head_integer _) c.head_at.ensures.table c.in_default.is; says = λ x e a. absurd (at_head a (sym (c.head_at.ensures.rule) ∙ c.in_default.is)) }

pub returns-in-Unsigned : goal.returns-in-Unsigned
returns-in-Unsigned c = record { table = to_z-of_z {w = w32} (record { sfits = c.unsigned.type_inv }) ∙ c.unsigned.ensures ∙ by-head _ _ _ (pos 0) (head_integer _) c.head_at.ensures.table c.in-Some.is c.kind_at.ensures.table c.in-Unsigned.is; says = λ x e a. to_z-of_z {w = w32} (record { sfits = c.unsigned.type_inv }) ∙ c.unsigned.ensures ∙ read-unsigned x a (sym (c.head_at.ensures.rule) ∙ c.in-Some.is) (sym (c.kind_at.ensures.rule) ∙ c.in-Unsigned.is) }

pub returns-in-Signed : goal.returns-in-Signed
returns-in-Signed c = record { table = to_z-of_z {w = w32} (record { sfits = c.signed.type_inv }) ∙ c.signed.ensures ∙ ap (signed_by _) c.saturating_sub.ensures ∙ by-head _ _ _ (pos 0) (head_integer _) c.head_at.ensures.table c.in-Some.is c.kind_at.ensures.table c.in-Signed.is; says = λ x e a. to_z-of_z {w = w32} (record { sfits = c.signed.type_inv }) ∙ c.signed.ensures ∙ ap (signed_by _) c.saturating_sub.ensures ∙ read-signed x a (sym (c.head_at.ensures.rule) ∙ c.in-Some.is) (sym (c.kind_at.ensures.rule) ∙ c.in-Signed.is) }

pub returns-in_default-kind_at : goal.returns-in_default-kind_at
returns-in_default-kind_at c =
    let f = kind-other Kind.Unsigned (Kind.Unsigned ∷ Kind.Signed ∷ []) c.kind_at.result tt (opened c.in_default-kind_at.in_default-kind_at-own.keys3) in
    let g = kind-other Kind.Signed (Kind.Unsigned ∷ Kind.Signed ∷ []) c.kind_at.result tt (opened c.in_default-kind_at.in_default-kind_at-own.keys3) in
    record { table = by-other _ _ _ (pos 0) (head_integer _) c.head_at.ensures.table c.in-Some.is c.kind_at.ensures.table (rw (f, g)); says = λ x e a. no-integer x a (sym (c.kind_at.ensures.rule)) (rw (f, g)) }

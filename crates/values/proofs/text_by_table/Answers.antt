-- Each kind is a case of the laws of places: a string or a binary by its head, else nothing.
use mathlib.Core.Path.{refl, sym, ◌∙◌}
use native.Mathlib.Omega.{arith}
use Rattle.values.specs.Heads.{no_part, head_text}
use Rattle.values.specs.Laws.Heads.{by-cut, by-head, by-other, kind-other, body-part, body-inside}
use Rattle.values.specs.Laws.Places.{at_head, no_text, read-text}
use mathlib.Core.Logic.{inl, inr}
use mathlib.Core.List.{[], ◌∷◌}
use Rattle.heads.specs.declared.Kind.{Kind}
use borrow.Enum.Refused.{opened}
use Rattle.values.proofs.text_by_table.Goals as goal

pub returns-in_default : goal.returns-in_default
returns-in_default c = record { inside = omega arith; table = by-cut _ _ _ no_part (head_text _) c.head_at.ensures.table c.in_default.is; says = λ x e a. absurd (at_head a (sym (c.head_at.ensures.rule) ∙ c.in_default.is)) }

pub returns-in-Str : goal.returns-in-Str
returns-in-Str c =
    let b = c.body in
    record {
      inside = body-inside _ _ _ b.ensures;
      table = elim c.in-Str.is [
        | inl k ↦ b.ensures ∙ by-head _ _ _ no_part (head_text _) c.head_at.ensures.table c.in-Some.is c.kind_at.ensures.table k
        | inr k ↦ b.ensures ∙ by-head _ _ _ no_part (head_text _) c.head_at.ensures.table c.in-Some.is c.kind_at.ensures.table k
      ];
      says = λ x e a. elim c.in-Str.is [
        | inl k ↦ read-text x a (sym (c.head_at.ensures.rule) ∙ c.in-Some.is) (sym (c.kind_at.ensures.rule) ∙ k) refl refl refl refl b.result (body-part _ _ _ b.ensures)
        | inr k ↦ read-text x a (sym (c.head_at.ensures.rule) ∙ c.in-Some.is) (sym (c.kind_at.ensures.rule) ∙ k) refl refl refl refl b.result (body-part _ _ _ b.ensures)
      ];
    }

pub returns-in_default-kind_at : goal.returns-in_default-kind_at
returns-in_default-kind_at c =
    let f = kind-other Kind.Str (Kind.Str ∷ Kind.Bin ∷ []) c.kind_at.result tt (opened c.in_default-kind_at.in_default-kind_at-own.keys2) in
    let g = kind-other Kind.Bin (Kind.Str ∷ Kind.Bin ∷ []) c.kind_at.result tt (opened c.in_default-kind_at.in_default-kind_at-own.keys2) in
    record { inside = omega arith; table = by-other _ _ _ no_part (head_text _) c.head_at.ensures.table c.in-Some.is c.kind_at.ensures.table (rw (f, g)); says = λ x e a. no_text x a (sym (c.kind_at.ensures.rule)) f g }

-- Each kind is a case of the laws of places: an array by its head, else nothing.
use mathlib.Core.Path.{sym, subst, ◌∙◌}
use native.Mathlib.Omega.{arith}
use Rattle.heads.proofs.Laws.Head.{head-inside}
use Rattle.values.specs.Parts.{items_of}
use Rattle.values.specs.Heads.{no_part, head_items}
use Rattle.values.specs.Laws.Heads.{by-cut, by-head, by-other, kind-other, items-part, items-inside}
use Rattle.values.specs.Places.{ItemsAt}
use Rattle.values.specs.Laws.Places.{at_head, no_items, read-items, all-inside}
use mathlib.Core.List.{[], ◌∷◌}
use Rattle.heads.specs.declared.Kind.{Kind}
use borrow.Enum.Refused.{opened}
use Rattle.values.proofs.items_at.Goals as goal

pub returns-in_default : goal.returns-in_default
returns-in_default c = record { inside = omega arith; table = by-cut _ _ _ no_part (head_items _) c.head_at.ensures.table c.in_default.is; says = λ x e a. absurd (at_head a (sym (c.head_at.ensures.rule) ∙ c.in_default.is)) }

pub returns-in-Array : goal.returns-in-Array
returns-in-Array c =
    let v = c.values_from in
    record {
      inside = rw v.ensures (items-inside _ _ _);
      table = v.ensures ∙ by-head _ _ _ no_part (head_items _) c.head_at.ensures.table c.in-Some.is c.kind_at.ensures.table c.in-Array.is;
      says = λ x e a.
          let h = sym (c.head_at.ensures.rule) ∙ c.in-Some.is in
          let i = read-items x a h (sym (c.kind_at.ensures.rule) ∙ c.in-Array.is) in
          let l = all-inside (items_of x) (head-inside _ _ h).1 i.all in
          subst (ItemsAt _ x) (sym (v.ensures ∙ items-part _ _ _ (omega (arith, i.counts)))) i;
    }

pub returns-in_default-kind_at : goal.returns-in_default-kind_at
returns-in_default-kind_at c =
    let o = kind-other Kind.Array (Kind.Array ∷ []) c.kind_at.result tt (opened c.in_default-kind_at.in_default-kind_at-own.keys2) in
    record { inside = omega arith; table = by-other _ _ _ no_part (head_items _) c.head_at.ensures.table c.in-Some.is c.kind_at.ensures.table (rw o); says = λ x e a. no_items x a (sym (c.kind_at.ensures.rule)) o }

-- Each kind is a case of the laws of steps.
use mathlib.Core.Path.{sym, refl, ◌∙◌}
use mathlib.Core.Logic.{inl, inr}
use Rattle.heads.proofs.Laws.Head.{head-inside}
use Rattle.values.specs.Laws.Standing.{steps-cut-head, steps-no-value, steps_on, steps-past, steps-pairs, steps-items}
use Rattle.values.proofs.step_by_table.Goals as goal

pub returns-in_err-head : goal.returns-in_err-head
returns-in_err-head c = rw c.from_residual.ensures (steps-cut-head _ _ (sym (c.head_at.ensures.rule) ∙ c.in_err-head.was))

pub returns-in-Missing : goal.returns-in-Missing
returns-in-Missing c =
    let r = sym (c.kind_at.ensures.rule) in
    elim c.in-Missing.is [ inl k ↦ steps-no-value _ _ (r ∙ k) refl | inr k ↦ steps-no-value _ _ (r ∙ k) refl ]

pub returns-in-Unsigned : goal.returns-in-Unsigned
returns-in-Unsigned c =
    let h = sym (c.head_at.ensures.rule) ∙ c.in_ok-head.was in
    let r = sym (c.kind_at.ensures.rule) in
    let l = (head-inside _ _ h).1 in
    elim c.in-Unsigned.is [
      | inl k ↦ steps_on _ _ h (r ∙ k) l
      | inr o ↦ elim o [ inl k ↦ steps_on _ _ h (r ∙ k) l | inr k ↦ steps_on _ _ h (r ∙ k) l ]
    ]

pub returns-in-Str : goal.returns-in-Str
returns-in-Str c =
    let h = sym (c.head_at.ensures.rule) ∙ c.in_ok-head.was in
    let r = sym (c.kind_at.ensures.rule) in
    elim c.in-Str.is [ inl k ↦ steps-past _ _ h (r ∙ k) refl refl c.past.ensures | inr k ↦ steps-past _ _ h (r ∙ k) refl refl c.past.ensures ]

pub returns-in-Array : goal.returns-in-Array
returns-in-Array c = steps-items _ _ (sym (c.head_at.ensures.rule) ∙ c.in_ok-head.was) (sym (c.kind_at.ensures.rule) ∙ c.in-Array.is) c.over_items.ensures

pub returns-in-Map : goal.returns-in-Map
returns-in-Map c = steps-pairs _ _ (sym (c.head_at.ensures.rule) ∙ c.in_ok-head.was) (sym (c.kind_at.ensures.rule) ∙ c.in-Map.is) refl refl c.pairs.ensures

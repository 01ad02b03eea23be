-- A float is its head; another head holds no bits of a float.
use Rattle.std.proofs.Common.{◌≡◌, refl, false, sym, ◌∙◌}
use Rattle.transforms.specs.Laws.Matrix.{read-bits, no_bits}
use Rattle.values.specs.Heads.{is_float}
use Rattle.values.specs.Laws.Places.{at_head}
use Rattle.heads.specs.declared.Kind.{Kind}
use Rattle.transforms.proofs.bits_at.Goals as goal

-- a kind that is not that of a float
not_float : (k : Kind) → (k ≡ Kind.Float → ⊥) → is_float k ≡ false
not_float Kind.Unsigned h = refl
not_float Kind.Signed h = refl
not_float Kind.Float h = absurd (h refl)
not_float Kind.Str h = refl
not_float Kind.Bin h = refl
not_float Kind.Array h = refl
not_float Kind.Map h = refl
not_float Kind.Outside h = refl
not_float Kind.Missing h = refl

pub returns-in_default : goal.returns-in_default
returns-in_default c = λ x e a. absurd (at_head a (sym (c.head_at.ensures.rule) ∙ c.in_default.is))

pub returns-in-Float : goal.returns-in-Float
returns-in-Float c = λ x e a. read-bits x a (sym (c.head_at.ensures.rule) ∙ c.in-Some.is) (sym (c.kind_at.ensures.rule) ∙ c.in-Float.is)

pub returns-in_default-kind_at : goal.returns-in_default-kind_at
returns-in_default-kind_at c = λ x e a. no_bits x a (sym (c.kind_at.ensures.rule)) (not_float c.kind_at.result c.in_default-kind_at.not-Float)

-- The kind at the place of the value decides. Assumes nothing.
use Rattle.std.proofs.Common.{◌≡◌, refl, false, sym, ap, ◌∙◌, eq-eqb}
use Rattle.heads.specs.declared.Kind.{Kind}
use Rattle.values.specs.Heads.{is_binary}
use Rattle.views.specs.Laws.Binary.{binary-none, binary-some}
use Rattle.views.proofs.is_binary.Goals as goal

-- a kind that is not that of a binary
not_binary : (k : Kind) → (k ≡ Kind.Bin → ⊥) → is_binary k ≡ false
not_binary Kind.Unsigned h = refl
not_binary Kind.Signed h = refl
not_binary Kind.Float h = refl
not_binary Kind.Str h = refl
not_binary Kind.Bin h = absurd (h refl)
not_binary Kind.Array h = refl
not_binary Kind.Map h = refl
not_binary Kind.Outside h = refl
not_binary Kind.Missing h = refl

pub returns-else-at-ne0 : goal.returns-else-at-ne0
returns-else-at-ne0 c =
    let none = binary-none _ (c.value_under-at.ensures) c.if-at-ne0.false in
    rw (eq-eqb c.value_under-at.result 0 c.if-at-ne0.false) none

pub returns-in-Bin : goal.returns-in-Bin
returns-in-Bin c =
    let kind = sym (c.kind_at.ensures.rule) ∙ c.in-Bin.is in
    sym (ap is_binary kind) ∙ binary-some _ (c.value_under-at.ensures) c.if-at-ne0.true

pub returns-in_default : goal.returns-in_default
returns-in_default c =
    let other = not_binary c.kind_at.result c.in_default.not-Bin in
    sym other ∙ ap is_binary (c.kind_at.ensures.rule) ∙ binary-some _ (c.value_under-at.ensures) c.if-at-ne0.true

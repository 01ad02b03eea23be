-- A value of a kind, or an array by its head and its values.
use mathlib.Core.List.{List}
use mathlib.Core.Path.{◌≡◌, refl, ap}
use Prim.Native.Nat.{ℕ, zero, suc, ◌<◌}
use native.Mathlib.Omega.{arith}
use Rattle.fields.specs.Types.{FieldType, plain, array_of, exactly}
use Rattle.fields.specs.Laws.Steps.{HeadRead, value_as, value-cut, head_read, array_of-wrong, array_of-says, exactly-wrong, exactly-says, exactly-other}
use Rattle.fields.specs.Steps.{ValueSays}
use Rattle.fields.specs.Numbers.{build}
use Rattle.fields.specs.Tests.{typed}
use Rattle.fields.proofs.simple_at.Goals as goal

-- an array is of neither type where the kind is another
array-wrong : (f : ℕ → FieldType) (tag many wanted : ℕ) → (tag ≡ 0 → ⊥) → tag < 3 → {s : List ℕ} {at n p k : ℕ} → HeadRead s at n p k → (k ≡ 5 → ⊥) → ValueSays s (typed (build f tag many wanted)) at 0
array-wrong f zero m w d l h o = absurd (d refl)
array-wrong f (suc zero) m w d l h o = array_of-wrong h (plain w) o
array-wrong f (suc (suc zero)) m w d l h o = exactly-wrong h m (plain w) o
array-wrong f (suc (suc (suc t))) m w d l h o = absurd (omega arith)

pub returns-in_default : goal.returns-in_default
returns-in_default c =
    let a = c.args in
    λ f. value-cut a.file.now a.at (typed (build f a.tag a.many a.wanted)) c.head_at.ensures.rule c.in_default.is

pub returns-then-kind-ne-ARRAY : goal.returns-then-kind-ne-ARRAY
returns-then-kind-ne-ARRAY c =
    let a = c.args in
    λ f. array-wrong f a.tag a.many a.wanted c.if-tag-eq0.false c.requires.0 (head_read a.file.now a.at c.head_at.ensures.rule c.in-Some.is c.kind_at.ensures.rule c.head_kind-kind.ensures) c.if-kind-ne-ARRAY.true

pub returns-then-tag-eq1 : goal.returns-then-tag-eq1
returns-then-tag-eq1 c =
    let a = c.args in
    λ f. value_as (build f a.tag a.many a.wanted) (array_of (plain a.wanted)) (ap (λ (t : ℕ). build f t a.many a.wanted) c.if-tag-eq1.true) (array_of-says (head_read a.file.now a.at c.head_at.ensures.rule c.in-Some.is c.kind_at.ensures.rule c.head_kind-kind.ensures) (plain a.wanted) c.if-kind-ne-ARRAY.false c.plain_items.ensures)

pub returns-then-head-many : goal.returns-then-head-many
returns-then-head-many c =
    let a = c.args in
    let two : a.tag ≡ 2 = omega arith in
    λ f. value_as (build f a.tag a.many a.wanted) (exactly a.many (plain a.wanted)) (ap (λ (t : ℕ). build f t a.many a.wanted) two) (exactly-other (head_read a.file.now a.at c.head_at.ensures.rule c.in-Some.is c.kind_at.ensures.rule c.head_kind-kind.ensures) a.many (plain a.wanted) c.if-kind-ne-ARRAY.false c.if-head-many.true)

pub returns : goal.returns
returns c =
    let a = c.args in
    let two : a.tag ≡ 2 = omega arith in
    λ f. value_as (build f a.tag a.many a.wanted) (exactly a.many (plain a.wanted)) (ap (λ (t : ℕ). build f t a.many a.wanted) two) (exactly-says (head_read a.file.now a.at c.head_at.ensures.rule c.in-Some.is c.kind_at.ensures.rule c.head_kind-kind.ensures) a.many (plain a.wanted) c.if-kind-ne-ARRAY.false c.if-head-many.false c.plain_items-2.ensures)

-- Entities first, then the transforms of assemblies; both lists are the document's.
use mathlib.Core.Path.{refl, sym, ap, ◌∙◌}
use Prim.Native.Nat.{ℕ}
use Rattle.values.specs.Parts.{items_in}
use Rattle.text.specs.Equal.{equal}
use Rattle.fields.specs.Table.{named}
use Rattle.fields.specs.Fields.{field, find_row}
use Rattle.fields.specs.Tests.{all}
use Rattle.counts.specs.Indices.{chains_inside, transforms_inside}
use Rattle.counts.proofs.Laws.Steps.{says-named, and_first, and-true}
use Rattle.counts.proofs.indices_inside.Goals as goal

pub returns-else-all_inside : goal.returns-else-all_inside
unfolding find_row equal named
returns-else-all_inside c =
    λ es f k.
    let entities =
    c.all_inside.ensures (field "entityList" es) (says-named f "entityList" refl refl)
    ∙ ap (λ (h : ℕ). all (chains_inside h) (items_in (field "entityList" es))) k.chains in
    c.if-all_inside.false ∙ sym (and_first _ _ (sym entities ∙ c.if-all_inside.false))

pub returns-then-all_inside : goal.returns-then-all_inside
unfolding find_row equal named
returns-then-all_inside c =
    λ es f k.
    let entities =
    c.all_inside.ensures (field "entityList" es) (says-named f "entityList" refl refl)
    ∙ ap (λ (h : ℕ). all (chains_inside h) (items_in (field "entityList" es))) k.chains in
    let assemblies =
    c.assemblies_inside.ensures (field "bioAssemblyList" es) (says-named f "bioAssemblyList" refl refl)
    ∙ ap (λ (h : ℕ). all (transforms_inside h) (items_in (field "bioAssemblyList" es))) k.chains in
    assemblies ∙ sym (and-true _ _ (sym entities ∙ c.if-all_inside.true))

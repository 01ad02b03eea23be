-- Each num field stands at its place, and each count is small.
use mathlib.Core.Path.{refl}
use Rattle.text.specs.Equal.{equal}
use Rattle.fields.specs.Table.{named}
use Rattle.fields.specs.Fields.{find_row, is_required}
use Rattle.counts.proofs.Laws.Steps.{integer-named}
use Rattle.counts.proofs.counts_at.Goals as goal

pub returns : goal.returns
unfolding find_row is_required equal named
returns c = record {
  small = record {
    bonds = c.count_at.ensures.small;
    atoms = c.count_at-2.ensures.small;
    groups = c.count_at-3.ensures.small;
    chains = c.count_at-4.ensures.small;
    models = c.count_at-5.ensures.small;
  };
  fields = λ es f. record {
    bonds = integer-named f "numBonds" refl refl refl (λ x e a. c.count_at.ensures.integer x e a);
    atoms = integer-named f "numAtoms" refl refl refl (λ x e a. c.count_at-2.ensures.integer x e a);
    groups = integer-named f "numGroups" refl refl refl (λ x e a. c.count_at-3.ensures.integer x e a);
    chains = integer-named f "numChains" refl refl refl (λ x e a. c.count_at-4.ensures.integer x e a);
    models = integer-named f "numModels" refl refl refl (λ x e a. c.count_at-5.ensures.integer x e a);
  };
}

-- The lists are found, their lengths taken, and rule 5 judged; what a file holds has no more than 32 bits.
use mathlib.Core.Path.{sym, ap, ◌∙◌}
use Prim.Native.Nat.{ℕ, ◌/◌}
use native.Mathlib.Omega.{arith}
use native.Mathlib.Nat.{mod-eq_of_lt}
use Rattle.std.proofs.lemmas.Result.{err_from_is_err_and}
use Rattle.values.specs.Parts.{under}
use Rattle.counts.specs.GroupPlaces.{Lengths}
use Rattle.std.specs.Prelude.{Option as Answer, unwrap_or}
use Rattle.values.specs.Laws.Integers.{length-count}
use Rattle.counts.proofs.Laws.Group.{pairs_is, few-values}
use Rattle.counts.proofs.groups.group_at.Goals as goal

pub returns-in_err-judge : goal.returns-in_err-judge
returns-in_err-judge c =
    λ l x e a.
    let f = c.places_at-found.ensures x e a in
    let p = f.lists in
    let names = c.length_at.ensures.is (under "atomNameList" x) p.names in
    let charges = c.length_at-2.ensures.is (under "formalChargeList" x) p.charges in
    let elements = c.length_at-3.ensures.is (under "elementList" x) p.elements in
    let bonds = c.length_at-bonds.ensures.is (under "bondAtomList" x) p.bonds in
    let orders = c.length_at-orders.ensures.is (under "bondOrderList" x) p.orders in
    let atoms_are = c.unwrap_or-atoms.ensures ∙ ap (λ (z : Answer ℕ). unwrap_or z 0) names ∙ length-count (under "atomNameList" x) in
    let k : Lengths x _ _ _ _ _ = record { atoms_are = atoms_are; charges-are = c.unwrap_or-charges.ensures ∙ ap (λ (z : Answer ℕ). unwrap_or z 0) charges ∙ length-count (under "formalChargeList" x); elements-are = c.unwrap_or-elements.ensures ∙ ap (λ (z : Answer ℕ). unwrap_or z 0) elements ∙ length-count (under "elementList" x); bonds-are = bonds; orders-are = orders } in
    let q = err_from_is_err_and c.from_residual.result c.from_residual.ensures.1 in
    record { number = rw (q.1, q.2) (c.in_err-judge.ensures x p k); group = rw q.1 tt }

pub returns : goal.returns
returns c =
    λ l x e a.
    let f = c.places_at-found.ensures x e a in
    let p = f.lists in
    let names = c.length_at.ensures.is (under "atomNameList" x) p.names in
    let charges = c.length_at-2.ensures.is (under "formalChargeList" x) p.charges in
    let elements = c.length_at-3.ensures.is (under "elementList" x) p.elements in
    let bonds = c.length_at-bonds.ensures.is (under "bondAtomList" x) p.bonds in
    let orders = c.length_at-orders.ensures.is (under "bondOrderList" x) p.orders in
    let atoms_are = c.unwrap_or-atoms.ensures ∙ ap (λ (z : Answer ℕ). unwrap_or z 0) names ∙ length-count (under "atomNameList" x) in
    let few = few-values _ c.length_at.ensures.few in
    let few-bonds = few-values _ c.length_at-bonds.ensures.few in
    let atoms-few = c.unwrap_or-atoms.ensures in
    let bonds-few = c.unwrap_or.ensures in
    let k : Lengths x _ _ _ _ _ = record { atoms_are = atoms_are; charges-are = c.unwrap_or-charges.ensures ∙ ap (λ (z : Answer ℕ). unwrap_or z 0) charges ∙ length-count (under "formalChargeList" x); elements-are = c.unwrap_or-elements.ensures ∙ ap (λ (z : Answer ℕ). unwrap_or z 0) elements ∙ length-count (under "elementList" x); bonds-are = bonds; orders-are = orders } in
    record {
      number = c.in_ok-judge.ensures x p k;
      group = record { atoms = mod-eq_of_lt (omega arith) ∙ atoms_are; bonds = mod-eq_of_lt (omega arith) ∙ ap (λ (n : ℕ). n / 2) (c.unwrap_or.ensures ∙ ap (λ (z : Answer ℕ). unwrap_or z 0) bonds) ∙ sym (pairs_is (under "bondAtomList" x)); ends = f.ends };
    }

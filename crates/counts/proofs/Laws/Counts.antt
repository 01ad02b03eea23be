-- The number of the counts is 0 exactly when every rule of "Counts that must agree" holds, and at most 23.
-- Assumes nothing.
use Rattle.std.specs.Prelude.{◌≡◌, refl, List, [], ◌∷◌, ◌↔◌, ℕ, ◌≤◌}
use Rattle.std.proofs.Common.{lit<, lit≤}
use Rattle.refusal.specs.Table.{accepted, counts_disagree, index_outside, value_outside, too_many_group_types}
use Rattle.refusal.specs.First.{unless, first}
use Rattle.refusal.proofs.Laws.First.{or_else-left, or_else-right, or_else-zero, or_else-most, unless_holds, unless-zero, unless-most, first-each, first-zero}
use Rattle.numbers.specs.Laws.Tests.{either}
use Rattle.messagepack.specs.Document.{Document, Documents, none, item}
use Rattle.fields.specs.Types.{Each}
use Rattle.counts.specs.Group.{bond_orders_of, lists_agree, bonds_inside, orders_right, group_number, groups_number}
use Rattle.counts.specs.Counts.{Counted, few_types, numbers_right, chains_agree, lengths_agree, groups_inside, atoms_agree, bonds_total, outer_inside, outer_right, values_right, indices_inside, CountsAgree, counts_number}

-- rule 5: each group type's number is 0

groups-there : (types : Documents) → groups_number types ≡ 0 → Each (λ x. group_number x ≡ accepted) types
unfolding groups_number Each
groups-there none e = tt
groups-there (item x types) e = (or_else-left (group_number x) (groups_number types) e, groups-there types (or_else-right (group_number x) (groups_number types) e))

groups-back : (types : Documents) → Each (λ x. group_number x ≡ accepted) types → groups_number types ≡ 0
unfolding groups_number Each
groups-back none h = refl
groups-back (item x types) h = or_else-zero (group_number x) (groups_number types) h.0 (groups-back types h.1)

pub groups-exactly : (types : Documents) → (groups_number types ≡ 0) ↔ Each (λ x. group_number x ≡ accepted) types
groups-exactly types = (groups-there types, groups-back types)

-- the counts' number is 0 exactly when all rules hold

pub counts-exactly : (c : Counted) → (counts_number c ≡ 0) ↔ CountsAgree c
unfolding counts_number
counts-exactly c = (there, back)
  where
    numbers : List ℕ
    numbers =
        unless (few_types c) too_many_group_types
        ∷ unless (numbers_right c) value_outside
        ∷ unless (chains_agree c) counts_disagree
        ∷ unless (lengths_agree c) counts_disagree
        ∷ groups_number c.groupList
        ∷ unless (groups_inside c) index_outside
        ∷ unless (atoms_agree c) counts_disagree
        ∷ unless (bonds_total c) counts_disagree
        ∷ unless (outer_inside c) index_outside
        ∷ unless (outer_right c) value_outside
        ∷ unless (values_right c) value_outside
        ∷ unless (indices_inside c) index_outside
        ∷ []

    there : first numbers ≡ 0 → CountsAgree c
    there e =
        let rule = first-each numbers e in
        record {
          types = unless_holds (few_types c) too_many_group_types (lit< tt) (rule 0);
          numbers = unless_holds (numbers_right c) value_outside (lit< tt) (rule 1);
          chains = unless_holds (chains_agree c) counts_disagree (lit< tt) (rule 2);
          lengths = unless_holds (lengths_agree c) counts_disagree (lit< tt) (rule 3);
          groups = groups-there c.groupList (rule 4);
          group-types = unless_holds (groups_inside c) index_outside (lit< tt) (rule 5);
          atoms = unless_holds (atoms_agree c) counts_disagree (lit< tt) (rule 6);
          bonds = unless_holds (bonds_total c) counts_disagree (lit< tt) (rule 7);
          bond-atoms = unless_holds (outer_inside c) index_outside (lit< tt) (rule 8);
          bond-orders = unless_holds (outer_right c) value_outside (lit< tt) (rule 9);
          values = unless_holds (values_right c) value_outside (lit< tt) (rule 10);
          indices = unless_holds (indices_inside c) index_outside (lit< tt) (rule 11);
        }

    back : CountsAgree c → first numbers ≡ 0
    back r =
        first-zero numbers (
          unless-zero (few_types c) too_many_group_types r.types,
          (
            unless-zero (numbers_right c) value_outside r.numbers,
            (
              unless-zero (chains_agree c) counts_disagree r.chains,
              (
                unless-zero (lengths_agree c) counts_disagree r.lengths,
                (
                  groups-back c.groupList r.groups,
                  (
                    unless-zero (groups_inside c) index_outside r.group-types,
                    (
                      unless-zero (atoms_agree c) counts_disagree r.atoms,
                      (
                        unless-zero (bonds_total c) counts_disagree r.bonds,
                        (
                          unless-zero (outer_inside c) index_outside r.bond-atoms,
                          (
                            unless-zero (outer_right c) value_outside r.bond-orders,
                            (
                              unless-zero (values_right c) value_outside r.values,
                              (
                                unless-zero (indices_inside c) index_outside r.indices,
                                tt,
                              ),
                            ),
                          ),
                        ),
                      ),
                    ),
                  ),
                ),
              ),
            ),
          ),
        )

-- it is at most 23

abbrev Most : ℕ → Type 0
Most n = n ≤ too_many_group_types

group-most : (x : Document) → Most (group_number x)
unfolding group_number
group-most x = either Most (lists_agree x) (either Most (bonds_inside x) (either Most (orders_right (bond_orders_of x)) (lit≤ tt) (lit≤ tt)) (lit≤ tt)) (lit≤ tt)

groups-most : (types : Documents) → Most (groups_number types)
unfolding groups_number
groups-most none = lit≤ tt
groups-most (item x types) = or_else-most (group_number x) (groups_number types) (group-most x) (groups-most types)

pub counts-most : (c : Counted) → counts_number c ≤ too_many_group_types
unfolding counts_number
counts-most c =
    unless-most (few_types c) too_many_group_types (lit≤ tt)
    (unless-most (numbers_right c) value_outside (lit≤ tt)
    (unless-most (chains_agree c) counts_disagree (lit≤ tt)
    (unless-most (lengths_agree c) counts_disagree (lit≤ tt)
    (or_else-most (groups_number c.groupList) _ (groups-most c.groupList)
    (unless-most (groups_inside c) index_outside (lit≤ tt)
    (unless-most (atoms_agree c) counts_disagree (lit≤ tt)
    (unless-most (bonds_total c) counts_disagree (lit≤ tt)
    (unless-most (outer_inside c) index_outside (lit≤ tt)
    (unless-most (outer_right c) value_outside (lit≤ tt)
    (unless-most (values_right c) value_outside (lit≤ tt)
    (unless-most (indices_inside c) index_outside {m = accepted} (lit≤ tt) (lit≤ tt))))))))))))

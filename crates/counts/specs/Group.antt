-- Group types, as documents: their atoms and bonds, and rule 5 of paper 01, "Counts that must agree". Rules 8 and 9 use its tests of
-- bonds for those outside the group types. No reader, no place and no lemma stands here. Assumes nothing.
use Rattle.std.specs.Prelude.{Bool, true, false, cond, ◌&&◌, List, [], ◌∷◌, ℕ, ◌*◌, ◌/◌, ◌%◌, eqb, ℤ, pos, length}
use Rattle.std.proofs.Math.Option.{Option, some, none as nothing}
use Rattle.refusal.specs.Table.{accepted, counts_disagree, index_outside, value_outside}
use Rattle.refusal.specs.First.{or_else}
use Rattle.numbers.specs.Ranges.{all_between, all_below}
use Rattle.messagepack.specs.Document.{Document, Documents, none, item, count}
use Rattle.values.specs.Parts.{under, items_in}
use Rattle.values.specs.Integers.{integers_in, list_in}

-- bond indices come in pairs; orders are one for each pair, and never without indices
abbrev pub bonds_agree : Option (List ℤ) → Option (List ℤ) → Bool
bonds_agree nothing nothing = true
bonds_agree nothing (some orders) = false
bonds_agree (some atoms) nothing = eqb (length atoms % 2) 0
bonds_agree (some atoms) (some orders) = eqb (length atoms % 2) 0 && eqb (length orders * 2) (length atoms)

-- how many bonds there are
abbrev pub pairs : Option (List ℤ) → ℕ
pairs (some atoms) = length atoms / 2
pairs nothing = 0

-- orders are 1 to 4
abbrev pub orders_right : Option (List ℤ) → Bool
orders_right orders = all_between (pos 1) (pos 4) (list_in orders)

-- how many atoms a group type has
abbrev pub atoms_of : Document → ℕ
atoms_of x = count (items_in (under "atomNameList" x))

-- the bond indices and orders of a group type, if there are any
abbrev pub bond_atoms_of : Document → Option (List ℤ)
bond_atoms_of x = integers_in (under "bondAtomList" x)

abbrev pub bond_orders_of : Document → Option (List ℤ)
bond_orders_of x = integers_in (under "bondOrderList" x)

-- how many bonds a group type has
abbrev pub bonds_of : Document → ℕ
bonds_of x = pairs (bond_atoms_of x)

-- the three lists of a group type are equally long, and its bonds agree
abbrev pub lists_agree : Document → Bool
lists_agree x =
    eqb (count (items_in (under "formalChargeList" x))) (atoms_of x)
    && (eqb (count (items_in (under "elementList" x))) (atoms_of x) && bonds_agree (bond_atoms_of x) (bond_orders_of x))

-- the bond indices of a group type are inside its atoms
abbrev pub bonds_inside : Document → Bool
bonds_inside x = all_below (atoms_of x) (list_in (bond_atoms_of x))

-- rule 5 for one group type: 20, then 21, then 22
unfoldable pub group_number : Document → ℕ
group_number x =
    cond (lists_agree x) (cond (bonds_inside x) (cond (orders_right (bond_orders_of x)) accepted value_outside) index_outside) counts_disagree

-- rule 5: each group type in turn
unfoldable pub groups_number : Documents → ℕ
groups_number none = accepted
groups_number (item x types) = or_else (group_number x) (groups_number types)

-- the atoms of each group type, and the bonds
unfoldable pub each : (Document → ℕ) → Documents → List ℕ
each f none = []
each f (item x types) = f x ∷ each f types

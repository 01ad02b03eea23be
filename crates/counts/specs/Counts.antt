-- The eleven rules of paper 01, "Counts that must agree", in its order: what they look at of a file, each as a test on that, and the number of
-- the first that is broken. No reader, no place and no lemma stands here. Assumes nothing.
use Rattle.std.specs.Prelude.{◌≡◌, Bool, true, ◌&&◌, List, [], ◌∷◌, ℕ, ◌+◌, eqb, leb, ℤ, pos, negsuc, nat_abs, length}
use Rattle.std.proofs.Math.Option.{Option, some, none as nothing}
use Prim.Native.String as Text
use Rattle.refusal.specs.Table.{accepted, counts_disagree, index_outside, value_outside, too_many_group_types}
use Rattle.refusal.specs.First.{unless, first}
use Rattle.numbers.specs.Ranges.{integer_limit, all_between, all_below}
use Rattle.messagepack.specs.Document.{Document, Documents, Entries, count}
use Rattle.values.specs.Parts.{integer_of, items_in}
use Rattle.fields.specs.Fields.{field}
use Rattle.fields.specs.Types.{Each}
use Rattle.fields.specs.Tests.{all}
use Rattle.columns.specs.declared.Kind.TheVariants.{Int8, Int32}
use Rattle.columns.specs.declared.Wanted.{Wanted}
use Rattle.columns.specs.declared.Wanted.TheVariants.{Only}
use Rattle.file_columns.specs.Cells.{total, type_limit}
use Rattle.file_columns.specs.Columns.{cells_in, Measured, lengths_of, lengths_fit}
use Rattle.values.specs.Integers.{none_negative, sum, integers_in, list_in}
use Rattle.counts.specs.Group.{bonds_agree, pairs, orders_right, atoms_of, bonds_of, group_number, groups_number, each}
use Rattle.counts.specs.Indices.{chains_inside, transforms_inside}

-- the most models, chains, groups, atoms or bonds
abbrev pub count_limit : ℕ
count_limit = 16777216

-- What the rules look at of a file: its five num fields, its two arrays of integers, its group types, the cells of five columns, the lengths
-- of all columns, and the maps that list chains. Each is called as its field is.
pub record Counted : Type 0 where
  pub numBonds : ℤ
  pub numAtoms : ℤ
  pub numGroups : ℤ
  pub numChains : ℤ
  pub numModels : ℤ
  pub groupsPerChain : List ℤ
  pub chainsPerModel : List ℤ
  pub groupList : Documents
  pub groupTypeList : List ℤ
  pub bondAtomList : Option (List ℤ)
  pub bondOrderList : Option (List ℤ)
  pub secStructList : List ℤ
  pub sequenceIdList : List ℤ
  pub lengths : List Measured
  pub entityList : Documents
  pub bioAssemblyList : Documents

-- the integer, the integers and the maps of a field, none where it is not there
abbrev pub integer_in : Option Document → ℤ
integer_in (some x) = integer_of x
integer_in nothing = pos 0

abbrev pub integer : Text.String → Entries → ℤ
integer name es = integer_in (field name es)

abbrev integers : Text.String → Entries → List ℤ
integers name es = list_in (integers_in (field name es))

abbrev maps : Text.String → Entries → Documents
maps name es = items_in (field name es)

-- the cells of a column, if it is there
abbrev cells : Text.String → Wanted → Entries → Option (List ℤ)
cells name w es = cells_in w (field name es)

-- what they look at of a file, by the entries of its map
abbrev pub counted_of : Entries → Counted
counted_of es =
    record {
      numBonds = integer "numBonds" es;
      numAtoms = integer "numAtoms" es;
      numGroups = integer "numGroups" es;
      numChains = integer "numChains" es;
      numModels = integer "numModels" es;
      groupsPerChain = integers "groupsPerChain" es;
      chainsPerModel = integers "chainsPerModel" es;
      groupList = maps "groupList" es;
      groupTypeList = list_in (cells "groupTypeList" (Only Int32) es);
      bondAtomList = cells "bondAtomList" (Only Int32) es;
      bondOrderList = cells "bondOrderList" (Only Int8) es;
      secStructList = list_in (cells "secStructList" (Only Int8) es);
      sequenceIdList = list_in (cells "sequenceIdList" (Only Int32) es);
      lengths = lengths_of es;
      entityList = maps "entityList" es;
      bioAssemblyList = maps "bioAssemblyList" es;
    }

-- Rule 1: group types are at most 4,096 (`type_limit` of file_columns, whose tables have as many rows)
abbrev pub few_types : Counted → Bool
few_types c = leb (count c.groupList) type_limit

-- Rule 2: each of the five num fields is 0 to the limit of counts; no entry of groupsPerChain or chainsPerModel is negative
abbrev pub counts_right : Counted → Bool
counts_right c =
    all_between (pos 0) (pos count_limit) (c.numBonds ∷ c.numAtoms ∷ c.numGroups ∷ c.numChains ∷ c.numModels ∷ [])

abbrev pub numbers_right : Counted → Bool
numbers_right c = counts_right c && (none_negative c.groupsPerChain && none_negative c.chainsPerModel)

-- Rule 3: chainsPerModel has numModels entries, and their sum is numChains; groupsPerChain has numChains entries, and their sum is numGroups
abbrev pub chains_agree : Counted → Bool
chains_agree c =
    (eqb (length c.chainsPerModel) (nat_abs c.numModels) && eqb (sum c.chainsPerModel) (nat_abs c.numChains))
    && (eqb (length c.groupsPerChain) (nat_abs c.numChains) && eqb (sum c.groupsPerChain) (nat_abs c.numGroups))

-- Rule 4: columns have one entry for each atom, group or chain (`lengths_fit` of file_columns, by what each column has an entry for)
abbrev pub lengths_agree : Counted → Bool
lengths_agree c = lengths_fit c.lengths (nat_abs c.numAtoms) (nat_abs c.numGroups) (nat_abs c.numChains)

-- Rule 5: `groups_number` of Group.antt, over groupList

-- Rule 6: groupTypeList points inside groupList
abbrev pub groups_inside : Counted → Bool
groups_inside c = all_below (count c.groupList) c.groupTypeList

-- Rule 7: each group has the atoms of its type, and together these are numAtoms
abbrev pub atoms_agree : Counted → Bool
atoms_agree c = eqb (total (each atoms_of c.groupList) c.groupTypeList) (nat_abs c.numAtoms)

-- Rule 8: the bonds of each group's type, added over all groups, plus the pairs outside give numBonds; the pairs outside are whole, and their
-- orders agree
abbrev pub bonds_total : Counted → Bool
bonds_total c =
    eqb (total (each bonds_of c.groupList) c.groupTypeList + pairs c.bondAtomList) (nat_abs c.numBonds)
    && bonds_agree c.bondAtomList c.bondOrderList

-- Rule 9: outer bond indices are inside the atoms; then their orders are 1 to 4
abbrev pub outer_inside : Counted → Bool
outer_inside c = all_below (nat_abs c.numAtoms) (list_in c.bondAtomList)

abbrev pub outer_right : Counted → Bool
outer_right c = orders_right c.bondOrderList

-- Rule 10: secStructList is -1 to 7, sequenceIdList at least -1
abbrev pub values_right : Counted → Bool
values_right c = all_between (negsuc 0) (pos 7) c.secStructList && all_between (negsuc 0) (pos integer_limit) c.sequenceIdList

-- Rule 11: the chains that an entity or a transform lists are inside the chains
abbrev pub indices_inside : Counted → Bool
indices_inside c = all (chains_inside (nat_abs c.numChains)) c.entityList && all (transforms_inside (nat_abs c.numChains)) c.bioAssemblyList

-- 20 to 23 over the rules in their order
unfoldable pub counts_number : Counted → ℕ
counts_number c =
    first
    (unless (few_types c) too_many_group_types
    ∷ unless (numbers_right c) value_outside
    ∷ unless (chains_agree c) counts_disagree
    ∷ unless (lengths_agree c) counts_disagree
    ∷ groups_number c.groupList
    ∷ unless (groups_inside c) index_outside
    ∷ unless (atoms_agree c) counts_disagree
    ∷ unless (bonds_total c) counts_disagree
    ∷ unless (outer_inside c) index_outside
    ∷ unless (outer_right c) value_outside
    ∷ unless (values_right c) value_outside
    ∷ unless (indices_inside c) index_outside
    ∷ [])

-- all rules hold
pub record CountsAgree (c : Counted) : Type 0 where
  pub types : few_types c ≡ true
  pub numbers : numbers_right c ≡ true
  pub chains : chains_agree c ≡ true
  pub lengths : lengths_agree c ≡ true
  pub groups : Each (λ x. group_number x ≡ accepted) c.groupList
  pub group-types : groups_inside c ≡ true
  pub atoms : atoms_agree c ≡ true
  pub bonds : bonds_total c ≡ true
  pub bond-atoms : outer_inside c ≡ true
  pub bond-orders : outer_right c ≡ true
  pub values : values_right c ≡ true
  pub indices : indices_inside c ≡ true

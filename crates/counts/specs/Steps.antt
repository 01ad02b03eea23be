-- The rules of counts in the parts that the functions inside this crate judge, and what is known of a file's places when they do. No lemma
-- stands here. Assumes nothing.
use Rattle.std.specs.Prelude.{◌≡◌, Bool, cond, ◌&&◌, List, [], ◌∷◌, ℕ, suc, ◌+◌, ◌/◌, ◌≤◌, eqb, leb, ℤ, pos, nat_abs}
use Rattle.std.specs.Prelude.{Option as Answer, Some, None, unwrap_or}
use Rattle.refusal.specs.Table.{accepted, counts_disagree, index_outside, value_outside}
use Rattle.refusal.specs.First.{unless, first}
use Rattle.numbers.specs.Ranges.{between}
use Rattle.messagepack.specs.Document.{Document, Documents, Entries, none, item, count}
use Rattle.values.specs.Walked.{Short, WalkedAll, WalkedBy}
use Rattle.fields.specs.Types.{Has}
use Rattle.fields.specs.Table.{named}
use Rattle.fields.specs.Noted.{PlacesOf}
use Rattle.file_columns.specs.Cells.{type_limit}
use Rattle.file_columns.specs.declared.whole.Sums.{Sums}
use Rattle.file_columns.specs.Columns.{columns, AllRight}
use Rattle.counts.specs.Group.{group_number, groups_number}
use Rattle.counts.specs.GroupPlaces.{agrees}
use Rattle.counts.specs.Counts.{count_limit, Counted, counted_of, numbers_right, chains_agree, groups_inside, atoms_agree, bonds_total, outer_inside, outer_right, values_right, indices_inside}
use Rattle.counts.specs.declared.Counts.{Counts}

-- the places of the named fields of a file within the limit, where the required ones are there and the columns decode
pub record Facts (s : List ℕ) (es : Entries) (places : List ℕ) : Type 0 where
  pub places_of : PlacesOf s es places
  pub has : Has named es
  pub right : AllRight columns es
  pub short : Short s

-- a promise on a walked file by its entries, of which these facts are known
abbrev pub WalkedFacts : List ℕ → List ℕ → (Entries → Type 0) → Type 0
WalkedFacts file places P = WalkedBy (λ es. Facts file es places) P

-- a promise on a walked file within the limit by the n group types that stand from a place on
abbrev pub WalkedTypes : List ℕ → ℕ → ℕ → (Documents → Type 0) → Type 0
WalkedTypes file n at P = Short file → WalkedAll file n at (λ types e. P types)

-- a table after group types: it begins with a number of each type that rule 5 passes, up to the first that it refuses; beyond it is as before
unfoldable pub table_of : (Document → ℕ) → Documents → List ℕ → List ℕ
table_of f none old = old
table_of f (item x types) [] = []
table_of f (item x types) (o ∷ old) = cond (eqb (group_number x) accepted) (f x ∷ table_of f types old) (o ∷ old)

-- an integer as a count: one above the limit where it is out of range
abbrev pub as_count : ℤ → ℕ
as_count z = cond (between (pos 0) (pos count_limit) z) (nat_abs z) (suc count_limit)

-- the five num fields as counts
pub record CountsIn (f : Counted) (c : Counts) : Type 0 where
  pub bonds : c.bonds ≡ as_count f.numBonds
  pub atoms : c.atoms ≡ as_count f.numAtoms
  pub groups : c.groups ≡ as_count f.numGroups
  pub chains : c.chains ≡ as_count f.numChains
  pub models : c.models ≡ as_count f.numModels

-- the five num fields as counts, of which the atoms are within the limit
pub record CountsAre (f : Counted) (c : Counts) : Type 0 where
  pub bonds : c.bonds ≡ nat_abs f.numBonds
  pub atoms : c.atoms ≡ nat_abs f.numAtoms
  pub groups : c.groups ≡ nat_abs f.numGroups
  pub chains : c.chains ≡ nat_abs f.numChains
  pub models : c.models ≡ nat_abs f.numModels
  pub few-atoms : c.atoms ≤ count_limit

-- a promise on a walked file by what the rules look at, and one where the num fields are in range
abbrev pub WalkedCounted : List ℕ → List ℕ → (Counted → Type 0) → Type 0
WalkedCounted file places P = WalkedFacts file places (λ es. P (counted_of es))

abbrev pub WalkedCounts : List ℕ → List ℕ → Counts → (Counted → Type 0) → Type 0
WalkedCounts file places counts P = WalkedCounted file places (λ f. CountsAre f counts → P f)

-- group types within their limit
abbrev pub FewTypes : Counted → Type 0
FewTypes f = count f.groupList ≤ type_limit

-- counts at most one above the limit, as all are that are read
pub record Small (c : Counts) : Type 0 where
  pub bonds : c.bonds ≤ suc count_limit
  pub atoms : c.atoms ≤ suc count_limit
  pub groups : c.groups ≤ suc count_limit
  pub chains : c.chains ≤ suc count_limit
  pub models : c.models ≤ suc count_limit

-- are the counts all in range?
abbrev pub counts_fit : Counts → Bool
counts_fit c =
    leb c.bonds count_limit && (leb c.atoms count_limit && (leb c.groups count_limit && (leb c.chains count_limit && leb c.models count_limit)))

-- rule 3 by the numbers of entries and the sums
abbrev pub chains_fit : Counts → ℕ → ℕ → ℕ → ℕ → Bool
chains_fit c models chains ends groups = (eqb models c.models && eqb chains c.chains) && (eqb ends c.chains && eqb groups c.groups)

-- rules 2 and 3
abbrev pub chains_part : Counted → ℕ
chains_part f = first (unless (numbers_right f) value_outside ∷ unless (chains_agree f) counts_disagree ∷ [])

-- rules 6 to 8 by the sums over all groups and the lengths of the lists outside
abbrev pub totals_number : Answer Sums → Answer ℕ → Answer ℕ → Counts → ℕ
totals_number None outer orders c = index_outside
totals_number (Some sums) outer orders c =
    first
    (unless (eqb sums.atoms c.atoms) counts_disagree
    ∷ unless (eqb (sums.bonds + unwrap_or outer 0 / 2) c.bonds && agrees outer orders) counts_disagree
    ∷ [])

-- rules 6 to 8
abbrev pub totals_part : Counted → ℕ
totals_part f = first (unless (groups_inside f) index_outside ∷ unless (atoms_agree f) counts_disagree ∷ unless (bonds_total f) counts_disagree ∷ [])

-- rules 5 to 8
abbrev pub groups_part : Counted → ℕ
groups_part f = first (groups_number f.groupList ∷ totals_part f ∷ [])

-- rules 9 to 11
abbrev pub values_part : Counted → ℕ
values_part f =
    first
    (unless (outer_inside f) index_outside
    ∷ unless (outer_right f) value_outside
    ∷ unless (values_right f) value_outside
    ∷ unless (indices_inside f) index_outside
    ∷ [])

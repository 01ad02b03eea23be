-- The rules of counts in parts: what each part says by what is read of a file's fields, and that the parts are all of the rules.
-- Assumes nothing.
use Rattle.std.specs.Prelude.{◌≡◌, Bool, cond, ◌&&◌, List, [], ◌∷◌, ℕ, zero, suc, ◌+◌, ◌-◌, ◌/◌, ◌≤◌, ◌<◌, eqb, leb, ltb, ℤ, pos, negsuc, nat_abs, length, get_or}
use Rattle.std.proofs.Math.Path.{refl}
use Rattle.std.proofs.Common.{sym, ap, ap₂, ◌∙◌, arith, leb-true, le-leb, ltb-true, eqb-true, eq-eqb, ne_eqb}
use Rattle.std.proofs.Math.Bool.{true, false}
use Rattle.std.specs.Prelude.{Option as Answer, Some, None, unwrap_or}
use Rattle.std.proofs.Math.Option.{Option, some, none as nothing}
use Prim.Native.String as Text
use Rattle.std.specs.Int.Signed.{lt_z}
use Rattle.std.proofs.lemmas.Bool.{lt-leb, eqb-false}
use Rattle.refusal.specs.Table.{accepted, counts_disagree, index_outside, value_outside, too_many_group_types}
use Rattle.refusal.specs.First.{or_else, unless}
use Rattle.refusal.proofs.Laws.First.{or_else-assoc, or_else-none, refused-or_else}
use Rattle.numbers.specs.Ranges.{all_pass, between, all_below}
use Rattle.numbers.specs.Laws.Tests.{clash, and_left, and_right}
use Rattle.text.specs.Ascii.{ascii}
use Rattle.messagepack.specs.Document.{Document, Entries, count}
use Rattle.values.specs.Parts.{integer_of, text_of, items_of, items_in}
use Rattle.values.specs.Places.{At, PlaceSays}
use Rattle.values.specs.Walked.{Short}
use Rattle.values.specs.Integers.{integers_of, none_negative, sum, summed, integers_in, list_in, array_length}
use Rattle.values.specs.Laws.Places.{Stands, place-some, place_none}
use Rattle.values.specs.Laws.Integers.{length-integers}
use Rattle.fields.specs.Table.{named}
use Rattle.fields.specs.Fields.{field, field_number, is_field, is_required}
use Rattle.fields.specs.Laws.Fields.{place-name, has-name}
use Rattle.columns.specs.declared.Kind.{Kind}
use Rattle.columns.specs.declared.Kind.TheVariants.{Int8, Int32}
use Rattle.columns.specs.declared.Wanted.TheVariants.{Only}
use Rattle.columns.specs.Table.{is_strings}
use Rattle.file_columns.specs.Cells.{total, sums_over, type_limit}
use Rattle.file_columns.specs.declared.whole.Sums.{Sums}
use Rattle.file_columns.specs.Laws.Field.{length-cells, suits-only, field_column-suits}
use Rattle.file_columns.specs.Columns.{decoded, ColumnRight, cells_of, cells_in, length_in, column_length}
use Rattle.counts.specs.Group.{bonds_agree, pairs, atoms_of, bonds_of, groups_number, each}
use Rattle.counts.specs.GroupPlaces.{agrees}
use Rattle.counts.specs.Counts.{count_limit, Counted, integer_in, integer, few_types, counts_right, numbers_right, chains_agree, lengths_agree, groups_inside, atoms_agree, bonds_total, outer_inside, outer_right, values_right, indices_inside, counts_number}
use Rattle.counts.specs.Steps.{Facts, as_count, CountsIn, CountsAre, counts_fit, chains_fit, chains_part, totals_number, totals_part, groups_part, values_part}
use Rattle.counts.specs.declared.Counts.{Counts}

-- the values of an array are as many as its integers
length-items : (o : Option Document) → unwrap_or (array_length o) 0 ≡ count (items_in o)
unfolding count
length-items nothing = refl
length-items (some x) = refl

pub items-integers : (o : Option Document) → count (items_in o) ≡ length (list_in (integers_in o))
unfolding count
items-integers nothing = refl
items-integers (some x) = sym (length-integers (items_of x))

-- fields at their places, by their names

module _ {s : List ℕ} {es : Entries} {places : List ℕ} (f : Facts s es places) (name : Text.String) {i : ℕ} (is : is_field name ≡ true) (number : field_number name ≡ i) where
  -- a field's place
  pub says-named : PlaceSays s (get_or places i 0) (field name es)
  says-named = place-name f.places_of name is number

  -- how many values an array has
  pub count-named : {l : Answer ℕ} → ((o : Option Document) → PlaceSays s (get_or places i 0) o → l ≡ array_length o) → unwrap_or l 0 ≡ count (items_in (field name es))
  count-named h = ap (λ (z : Answer ℕ). unwrap_or z 0) (h (field name es) says-named) ∙ length-items (field name es)

  -- a required field has a place, and stands there
  module _ (required : is_required (ascii name) named ≡ true) where
    pub here-named : get_or places i 0 ≡ 0 → ⊥
    here-named z =
        let q = sym (place_none says-named z) ∙ (has-name (ascii name) named es f.has required).is in
        let y : ◌≡◌ {A = ℕ} 0 1 = cc in
        omega arith

    pub stands-named : Stands s (get_or places i 0) (field name es)
    stands-named = place-some says-named here-named

    -- as a count
    pub integer-named : {n : ℕ} → ((x : Document) (e : ℕ) → At s (get_or places i 0) x e → n ≡ as_count (integer_of x)) → n ≡ as_count (integer name es)
    integer-named h =
        let d = stands-named in
        h d.x d.end d.at ∙ ap (λ (z : Option Document). as_count (integer_in z)) (sym d.is)

    -- as the sum of an array
    pub sum-named : {r : Answer ℕ} → (Short s → (x : Document) (e : ℕ) → At s (get_or places i 0) x e → r ≡ summed (integers_of (items_of x))) → r ≡ summed (list_in (integers_in (field name es)))
    sum-named h =
        let d = stands-named in
        h f.short d.x d.end d.at ∙ ap (λ (z : Option Document). summed (list_in (integers_in z))) (sym d.is)

-- counts

-- an integer in range is at most the limit
pub natural-few : (z : ℤ) → between (pos 0) (pos count_limit) z ≡ true → nat_abs z ≤ count_limit
natural-few (pos n) e = leb-true n count_limit (and_right (leb 0 n) (leb n count_limit) e)
natural-few (negsuc n) e = clash e

pub count_fits : (z : ℤ) → leb (as_count z) count_limit ≡ between (pos 0) (pos count_limit) z
count_fits z = go (between (pos 0) (pos count_limit) z) refl
  where
    go : (b : Bool) → between (pos 0) (pos count_limit) z ≡ b → leb (cond b (nat_abs z) (suc count_limit)) count_limit ≡ b
    go true e = le-leb (nat_abs z) count_limit (natural-few z e)
    go false e = refl

-- a count is at most one above the limit
pub count_most : {n : ℕ} (z : ℤ) → n ≡ as_count z → n ≤ suc count_limit
count_most {n} z h = go (between (pos 0) (pos count_limit) z) refl h
  where
    go : (b : Bool) → between (pos 0) (pos count_limit) z ≡ b → n ≡ cond b (nat_abs z) (suc count_limit) → n ≤ suc count_limit
    go true e q = omega (arith, natural-few z e)
    go false e q = omega arith

pub count-natural : (z : ℤ) → leb (as_count z) count_limit ≡ true → as_count z ≡ nat_abs z
count-natural z h = ap (λ (b : Bool). cond b (nat_abs z) (suc count_limit)) (sym (count_fits z) ∙ h)

five : (a b d e f : Bool) → a && (b && (d && (e && f))) ≡ true → (a ≡ true) × (b ≡ true) × (d ≡ true) × (e ≡ true) × (f ≡ true)
five true true true true f h = (refl, refl, refl, refl, h)
five true true true false f h = clash h
five true true false e f h = clash h
five true false d e f h = clash h
five false b d e f h = clash h

module _ {f : Counted} {c : Counts} (k : CountsIn f c) where
  pub fit_is : counts_fit c ≡ counts_right f
  unfolding all_pass
  fit_is =
      rw (k.bonds, k.atoms, k.groups, k.chains, k.models, count_fits f.numBonds, count_fits f.numAtoms, count_fits f.numGroups, count_fits f.numChains, count_fits f.numModels) (go (between (pos 0) (pos count_limit) f.numBonds) (between (pos 0) (pos count_limit) f.numAtoms) (between (pos 0) (pos count_limit) f.numGroups) (between (pos 0) (pos count_limit) f.numChains) (between (pos 0) (pos count_limit) f.numModels))
    where
      go : (a b d e f : Bool) → a && (b && (d && (e && f))) ≡ a && (b && (d && (e && (f && true))))
      go true true true true true = refl
      go true true true true false = refl
      go true true true false f = refl
      go true true false e f = refl
      go true false d e f = refl
      go false b d e f = refl

  pub counts-are : counts_fit c ≡ true → CountsAre f c
  counts-are h =
      let q = five (leb c.bonds count_limit) (leb c.atoms count_limit) (leb c.groups count_limit) (leb c.chains count_limit) (leb c.models count_limit) h in
      record {
        bonds = k.bonds ∙ count-natural f.numBonds (rw (← k.bonds) q.0);
        atoms = k.atoms ∙ count-natural f.numAtoms (rw (← k.atoms) q.1);
        groups = k.groups ∙ count-natural f.numGroups (rw (← k.groups) q.2);
        chains = k.chains ∙ count-natural f.numChains (rw (← k.chains) q.3);
        models = k.models ∙ count-natural f.numModels (rw (← k.models) q.4);
        few-atoms = leb-true c.atoms count_limit q.1;
      }

-- sums

pub sum-negative : (xs : List ℤ) → None ≡ summed xs → none_negative xs ≡ false
sum-negative xs e = go (none_negative xs) e
  where
    go : (b : Bool) → ◌≡◌ {A = Answer ℕ} None (cond b (Some (sum xs)) None) → b ≡ false
    go true q = let y : ◌≡◌ {A = ℕ} 0 1 = cc in absurd (omega arith)
    go false q = refl

pub sum_is : (n : ℕ) (xs : List ℤ) → Some n ≡ summed xs → (none_negative xs ≡ true) × (n ≡ sum xs)
sum_is n xs e = go (none_negative xs) e
  where
    go : (b : Bool) → Some n ≡ cond b (Some (sum xs)) None → (b ≡ true) × (n ≡ sum xs)
    go true q = (refl, cc)
    go false q = let y : ◌≡◌ {A = ℕ} 0 1 = cc in absurd (omega arith)

-- numbers of rules

-- the parts are all of the rules, in their order
pub counts-parts : (f : Counted) → counts_number f ≡ or_else (unless (few_types f) too_many_group_types) (or_else (chains_part f) (or_else (unless (lengths_agree f) counts_disagree) (or_else (groups_part f) (values_part f))))
unfolding counts_number
counts-parts f = sym (ap (λ (n : ℕ). or_else (unless (few_types f) too_many_group_types) n) (ap₂ (λ (n m : ℕ). or_else n (or_else (unless (lengths_agree f) counts_disagree) m)) (ap (λ (m : ℕ). or_else (unless (numbers_right f) value_outside) m) (or_else-none (unless (chains_agree f) counts_disagree))) (ap (λ (m : ℕ). or_else m (values_part f)) (ap (λ (m : ℕ). or_else (groups_number f.groupList) m) (or_else-none (totals_part f))) ∙ or_else-assoc (groups_number f.groupList) (totals_part f) (values_part f) ∙ ap (λ (m : ℕ). or_else (groups_number f.groupList) m) (three (unless (groups_inside f) index_outside) (unless (atoms_agree f) counts_disagree) (unless (bonds_total f) counts_disagree) (values_part f))) ∙ or_else-assoc (unless (numbers_right f) value_outside) (unless (chains_agree f) counts_disagree) _))
  where
    three : (a b c m : ℕ) → or_else (or_else a (or_else b (or_else c accepted))) m ≡ or_else a (or_else b (or_else c m))
    three zero zero zero m = refl
    three zero zero (suc c) m = refl
    three zero (suc b) c m = refl
    three (suc a) b c m = refl

-- rules 2 and 3

module _ {f : Counted} {c : Counts} (k : CountsIn f c) where
  fit : {b : Bool} → counts_fit c ≡ b → counts_right f ≡ b
  fit h = sym (fit_is k) ∙ h

  pub chains-unfit : counts_fit c ≡ false → value_outside ≡ chains_part f
  chains-unfit h = rw (fit h)

  pub chains-groups : counts_fit c ≡ true → none_negative f.groupsPerChain ≡ false → value_outside ≡ chains_part f
  chains-groups h g = rw (fit h, g)

  pub chains-models : counts_fit c ≡ true → none_negative f.groupsPerChain ≡ true → none_negative f.chainsPerModel ≡ false → value_outside ≡ chains_part f
  chains-models h g m = rw (fit h, g, m)

  pub chains-are : {models chains ends groups : ℕ} {b : Bool} → counts_fit c ≡ true → none_negative f.groupsPerChain ≡ true → none_negative f.chainsPerModel ≡ true → models ≡ length f.chainsPerModel → chains ≡ sum f.chainsPerModel → ends ≡ length f.groupsPerChain → groups ≡ sum f.groupsPerChain → chains_fit c models chains ends groups ≡ b → unless b counts_disagree ≡ chains_part f
  chains-are {models} {chains} {ends} {groups} {b} h g m i j l n q =
      let a = counts-are k h in
      let e : chains_agree f ≡ b = rw (i, j, l, n, a.models, a.chains, a.groups) at q in
      rw (fit h, g, m, e) (sym (or_else-none (unless b counts_disagree)))

  -- where they hold, so does the range of the counts
  pub chains-fine : chains_part f ≡ accepted → CountsAre f c
  chains-fine z = counts-are k (fit_is k ∙ go _ _ (chains_agree f) z)
    where
      go : (a b d : Bool) → or_else (unless (a && b) value_outside) (or_else (unless d counts_disagree) accepted) ≡ accepted → a ≡ true
      go true b d q = refl
      go false b d q = absurd (omega arith)

-- rules 6 to 8

-- the columns of bonds by their lengths
cells-long : (j : Kind) (x : Document) → is_strings j ≡ false → ColumnRight (Only j) (some x) → length_in (decoded (Only j) x) ≡ length (cells_of (decoded (Only j) x))
cells-long j x s r =
    let k : r.k ≡ j = suits-only j r.k (field_column-suits (Only j) (text_of x) r.k r.m r.cells r.is) in
    ap length_in r.is ∙ length-cells r.k r.cells (rw k s) ∙ sym (ap (λ z. length (cells_of z)) r.is)

pub pairs-cells : (o : Option Document) → ColumnRight (Only Int32) o → unwrap_or (column_length (Only Int32) o) 0 / 2 ≡ pairs (cells_in (Only Int32) o)
pairs-cells nothing r = refl
pairs-cells (some x) r = ap (λ (n : ℕ). n / 2) (cells-long Int32 x refl r)

pub agree-cells : (a b : Option Document) → ColumnRight (Only Int32) a → ColumnRight (Only Int8) b → agrees (column_length (Only Int32) a) (column_length (Only Int8) b) ≡ bonds_agree (cells_in (Only Int32) a) (cells_in (Only Int8) b)
agree-cells nothing nothing r q = refl
agree-cells nothing (some y) r q = refl
agree-cells (some x) nothing r q = rw (cells-long Int32 x refl r)
agree-cells (some x) (some y) r q = rw (cells-long Int32 x refl r, cells-long Int8 y refl q)

-- sums over a table that begins as another does
pub total-like : (n : ℕ) (a b : List ℕ) → ((i : ℕ) → i < n → get_or a i 0 ≡ get_or b i 0) → (xs : List ℤ) → all_below n xs ≡ true → total a xs ≡ total b xs
unfolding total all_pass
total-like n a b h [] e = refl
total-like n a b h (pos i ∷ xs) e = ap₂ ◌+◌ (h i (ltb-true i n (and_left (ltb i n) (all_below n xs) e))) (total-like n a b h xs (and_right (ltb i n) (all_below n xs) e))
total-like n a b h (negsuc i ∷ xs) e = clash e

pub totals-are : (f : Counted) (c : Counts) (sums : Answer Sums) (outer orders : Answer ℕ) (atoms bonds : List ℕ) → CountsAre f c → sums ≡ sums_over (count f.groupList) atoms bonds f.groupTypeList → ((i : ℕ) → i < count f.groupList → get_or atoms i 0 ≡ get_or (each atoms_of f.groupList) i 0) → ((i : ℕ) → i < count f.groupList → get_or bonds i 0 ≡ get_or (each bonds_of f.groupList) i 0) → unwrap_or outer 0 / 2 ≡ pairs f.bondAtomList → agrees outer orders ≡ bonds_agree f.bondAtomList f.bondOrderList → totals_number sums outer orders c ≡ totals_part f
totals-are f c sums outer orders atoms bonds k t ha hb p g = go (all_below (count f.groupList) f.groupTypeList) refl
  where
    go : (b : Bool) → all_below (count f.groupList) f.groupTypeList ≡ b → totals_number sums outer orders c ≡ totals_part f
    go false i =
        let s : sums ≡ None = t ∙ rw i in
        let j : groups_inside f ≡ false = i in
        rw (s, j)
    go true i =
        let s : sums ≡ Some (record { atoms = total atoms f.groupTypeList; bonds = total bonds f.groupTypeList }) = t ∙ rw i in
        let j : groups_inside f ≡ true = i in
        let x = total-like (count f.groupList) atoms (each atoms_of f.groupList) ha f.groupTypeList i in
        let y = total-like (count f.groupList) bonds (each bonds_of f.groupList) hb f.groupTypeList i in
        rw (s, j, x, y, p, g, k.atoms, k.bonds)

pub groups-fine : (f : Counted) → groups_number f.groupList ≡ accepted → totals_part f ≡ groups_part f
groups-fine f z = sym (ap (λ (n : ℕ). or_else n (or_else (totals_part f) accepted)) z ∙ or_else-none (totals_part f))

pub groups-refused : (f : Counted) (r : ℕ) → (r ≡ accepted → ⊥) → r ≡ groups_number f.groupList → r ≡ groups_part f
groups-refused f zero h q = absurd (h refl)
groups-refused f (suc r) h q = ap (λ (n : ℕ). or_else n (or_else (totals_part f) accepted)) q

-- small sums

pub sum_less : (a b s : ℕ) → s < a → eqb (a + b) s ≡ false
sum_less a b s l = ne_eqb (a + b) s (λ e. omega arith)

pub sum-rest : (a b s : ℕ) → a ≤ s → eqb (s - a) b ≡ eqb (a + b) s
sum-rest a b s l = go (eqb (a + b) s) refl
  where
    go : (t : Bool) → eqb (a + b) s ≡ t → eqb (s - a) b ≡ t
    go true e = let q = eqb-true (a + b) s e in eq-eqb (s - a) b (omega arith)
    go false e = let q = eqb-false (a + b) s e in ne_eqb (s - a) b (λ z. q (omega arith))

pub count-negative : (z : ℤ) → lt_z z (pos 0) ≡ true → as_count z ≡ suc count_limit
count-negative (pos n) h = let l : n < 0 = ltb-true n 0 h in absurd (omega arith)
count-negative (negsuc n) h = refl

pub count-large : (z : ℤ) → lt_z z (pos 0) ≡ false → count_limit < nat_abs z → as_count z ≡ suc count_limit
count-large (pos n) h l = rw (le-leb 0 n (omega arith), lt-leb n count_limit l)
count-large (negsuc n) h l = refl

pub count_small : (z : ℤ) → lt_z z (pos 0) ≡ false → nat_abs z ≤ count_limit → as_count z ≡ nat_abs z
count_small (pos n) h l = rw (le-leb 0 n (omega arith), le-leb n count_limit l)
count_small (negsuc n) h l = clash (sym h)

-- rules 9 to 11, case by case

module _ (f : Counted) where
  pub values-index : outer_inside f ≡ false → index_outside ≡ values_part f
  values-index a = rw a

  module _ (a : outer_inside f ≡ true) where
    pub values-order : outer_right f ≡ false → value_outside ≡ values_part f
    values-order b = rw (a, b)

    module _ (b : outer_right f ≡ true) where
      pub values_listed : values_right f ≡ false → value_outside ≡ values_part f
      values_listed d = rw (a, b, d)

      module _ (d : values_right f ≡ true) where
        pub values-chains : indices_inside f ≡ false → index_outside ≡ values_part f
        values-chains e = rw (a, b, d, e)

        pub values-fine : indices_inside f ≡ true → accepted ≡ values_part f
        values-fine e = rw (a, b, d, e)

pub and_first : (a b : Bool) → a ≡ false → a && b ≡ false
and_first a b e = rw e

pub and-true : (a b : Bool) → a ≡ true → a && b ≡ b
and-true a b e = rw e

-- the number of the rules, part by part

module _ (f : Counted) where
  pub counts-types : few_types f ≡ false → too_many_group_types ≡ counts_number f
  counts-types a = sym (counts-parts f ∙ rw a)

  module _ (a : few_types f ≡ true) where
    start : counts_number f ≡ or_else (chains_part f) (or_else (unless (lengths_agree f) counts_disagree) (or_else (groups_part f) (values_part f)))
    start = counts-parts f ∙ ap (λ (b : Bool). or_else (unless b too_many_group_types) (or_else (chains_part f) (or_else (unless (lengths_agree f) counts_disagree) (or_else (groups_part f) (values_part f))))) a

    pub counts-chains : (r : ℕ) → (r ≡ accepted → ⊥) → r ≡ chains_part f → r ≡ counts_number f
    counts-chains r h q = refused-or_else r (chains_part f) _ h q ∙ sym start

    module _ (b : chains_part f ≡ accepted) where
      next : counts_number f ≡ or_else (unless (lengths_agree f) counts_disagree) (or_else (groups_part f) (values_part f))
      next = start ∙ ap (λ (n : ℕ). or_else n (or_else (unless (lengths_agree f) counts_disagree) (or_else (groups_part f) (values_part f)))) b

      pub counts-lengths : lengths_agree f ≡ false → counts_disagree ≡ counts_number f
      counts-lengths d = sym (next ∙ ap (λ (t : Bool). or_else (unless t counts_disagree) (or_else (groups_part f) (values_part f))) d)

      module _ (d : lengths_agree f ≡ true) where
        then : counts_number f ≡ or_else (groups_part f) (values_part f)
        then = next ∙ ap (λ (t : Bool). or_else (unless t counts_disagree) (or_else (groups_part f) (values_part f))) d

        pub counts-groups : (r : ℕ) → (r ≡ accepted → ⊥) → r ≡ groups_part f → r ≡ counts_number f
        counts-groups r h q = refused-or_else r (groups_part f) (values_part f) h q ∙ sym then

        pub counts-values : (r : ℕ) → groups_part f ≡ accepted → r ≡ values_part f → r ≡ counts_number f
        counts-values r z q = q ∙ sym (then ∙ ap (λ (n : ℕ). or_else n (values_part f)) z)

-- rule 1
pub types-few : (f : Counted) (n : ℕ) → n ≡ count f.groupList → n ≤ type_limit → few_types f ≡ true
types-few f n e l = le-leb (count f.groupList) type_limit (rw (← e) l)

pub types-many : (f : Counted) (n : ℕ) → n ≡ count f.groupList → type_limit < n → few_types f ≡ false
types-many f n e l = lt-leb (count f.groupList) type_limit (rw (← e) l)

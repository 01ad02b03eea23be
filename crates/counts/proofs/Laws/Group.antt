-- Group types: the lists of one by their places, and rule 5 case by case.
-- Assumes nothing.
use Rattle.std.specs.Prelude.{◌≡◌, refl, Bool, true, false, ◌&&◌, List, ℕ, ◌+◌, ◌-◌, ◌*◌, ◌/◌, ◌≤◌, ◌<◌, eqb, length, take, drop}
use Rattle.std.proofs.Common.{sym, ap, subst, ◌∙◌, arith, add-zero}
use Rattle.std.specs.Prelude.{Option as Answer, Some, None, unwrap_or, IfSome}
use Rattle.std.proofs.Math.Option.{Option, some, none as nothing}
use Rattle.refusal.specs.Table.{accepted, counts_disagree, index_outside, value_outside}
use borrow.Author.Tests.{eq-eqb, ne_eqb}
use Rattle.numbers.specs.Ranges.{all_pass}
use Rattle.numbers.specs.Laws.Tests.{clash}
use Rattle.text.specs.Ascii.{ascii}
use Rattle.messagepack.specs.Document.{Document, Entries, count, size, integer, float, string, binary, array, map, empty, entry, WritesEntries}
use Rattle.values.specs.Parts.{items_of, entries_of, under, items_in}
use Rattle.values.specs.Places.{At, AtEntries}
use Rattle.values.specs.Heads.{is_map}
use Rattle.values.specs.Laws.Places.{open-map, heads, read-heads, no-entries}
use Rattle.heads.specs.Head.{some_head, kind_at, head_at}
use Rattle.heads.proofs.Laws.Head.{same-parts}
use Rattle.heads.specs.declared.Kind.{Kind}
use Rattle.values.specs.declared.Part.{Part}
use Rattle.values.specs.Integers.{integers_in, array_length}
use Rattle.values.specs.Laws.Integers.{length-integers}
use Rattle.values.specs.Seeking.{Seeking}
use Rattle.values.specs.Laws.Seeking.{Turn, seeking-start, seeking-end, seeking-turn}
use Rattle.counts.specs.Group.{bonds_agree, pairs, orders_right, atoms_of, bond_atoms_of, bond_orders_of, lists_agree, bonds_inside, group_number}
use Rattle.counts.specs.GroupPlaces.{PlacesIn, noted, agrees, Lengths, FoundIn, no_lists}
use Rattle.refusal.specs.First.{unless}
use Rattle.counts.specs.declared.groups.Places.{Places}
use Rattle.counts.specs.declared.groups.Found.{Found}

-- the lengths of the lists decide whether bonds agree
pub agrees-is : (a b : Option Document) → agrees (array_length a) (array_length b) ≡ bonds_agree (integers_in a) (integers_in b)
agrees-is nothing nothing = refl
agrees-is nothing (some y) = refl
agrees-is (some x) nothing = rw (length-integers (items_of x))
agrees-is (some x) (some y) = rw (length-integers (items_of x), length-integers (items_of y))

pub pairs_is : (o : Option Document) → pairs (integers_in o) ≡ unwrap_or (array_length o) 0 / 2
pairs_is nothing = refl
pairs_is (some x) = ap (λ (n : ℕ). n / 2) (length-integers (items_of x))

-- no list has more values than a file has bytes
pub few-values : {k : ℕ} (o : Answer ℕ) → IfSome o (λ n. n ≤ k) → unwrap_or o 0 ≤ k
few-values None h = omega arith
few-values (Some n) h = h

-- the lists of a group type agree by their lengths
pub lists-are : {x : Document} {atoms charges elements : ℕ} {bonds orders : Answer ℕ} → Lengths x atoms charges elements bonds orders → (eqb charges atoms && (eqb elements atoms && agrees bonds orders)) ≡ lists_agree x
lists-are {x} k =
    rw (k.charges-are, k.elements-are, k.atoms_are, k.bonds-are, k.orders-are) (ap (λ (b : Bool). eqb (count (items_in (under "formalChargeList" x))) (atoms_of x) && (eqb (count (items_in (under "elementList" x))) (atoms_of x) && b)) (agrees-is (under "bondAtomList" x) (under "bondOrderList" x)))

-- rule 5, case by case
module _ (x : Document) where
  pub group-lists : lists_agree x ≡ false → counts_disagree ≡ group_number x
  unfolding group_number
  group-lists e = rw e

  module _ (lists : lists_agree x ≡ true) where
    pub lists-inside : bonds_inside x ≡ false → index_outside ≡ group_number x
    unfolding group_number
    lists-inside e = rw (lists, e)

    pub lists-orders : bonds_inside x ≡ true → (b : Bool) → orders_right (bond_orders_of x) ≡ b → unless b value_outside ≡ group_number x
    unfolding group_number
    lists-orders i true e = rw (lists, i, e)
    lists-orders i false e = rw (lists, i, e)

-- the same, list by list
module _ (x : Document) where
  pub group-charges : (count (items_in (under "formalChargeList" x)) ≡ atoms_of x → ⊥) → counts_disagree ≡ group_number x
  unfolding group_number
  group-charges n = rw (ne_eqb (count (items_in (under "formalChargeList" x))) (atoms_of x) n)

  module _ (charges : count (items_in (under "formalChargeList" x)) ≡ atoms_of x) where
    pub group-elements : (count (items_in (under "elementList" x)) ≡ atoms_of x → ⊥) → counts_disagree ≡ group_number x
    unfolding group_number
    group-elements n = rw (eq-eqb (count (items_in (under "formalChargeList" x))) (atoms_of x) charges, ne_eqb (count (items_in (under "elementList" x))) (atoms_of x) n)

    module _ (elements : count (items_in (under "elementList" x)) ≡ atoms_of x) where
      lists : {b : Bool} → bonds_agree (bond_atoms_of x) (bond_orders_of x) ≡ b → lists_agree x ≡ b
      lists e = rw (eq-eqb (count (items_in (under "formalChargeList" x))) (atoms_of x) charges, eq-eqb (count (items_in (under "elementList" x))) (atoms_of x) elements) e

      pub group-bonds : bonds_agree (bond_atoms_of x) (bond_orders_of x) ≡ false → counts_disagree ≡ group_number x
      unfolding group_number
      group-bonds e = rw (lists e)

      module _ (bonds : bonds_agree (bond_atoms_of x) (bond_orders_of x) ≡ true) where
        pub group-inside : bonds_inside x ≡ false → index_outside ≡ group_number x
        unfolding group_number
        group-inside e = rw (lists bonds, e)

        pub group-orders : bonds_inside x ≡ true → orders_right (bond_orders_of x) ≡ false → value_outside ≡ group_number x
        unfolding group_number
        group-orders i e = rw (lists bonds, i, e)

        pub group-fine : bonds_inside x ≡ true → orders_right (bond_orders_of x) ≡ true → accepted ≡ group_number x
        unfolding group_number
        group-fine i e = rw (lists bonds, i, e)

-- the search for five keys at once
pub record SeekAll (s : List ℕ) (es rest : Entries) (r : Places) : Type 0 where
  pub charges : Seeking s (ascii "formalChargeList") es rest r.charges
  pub names : Seeking s (ascii "atomNameList") es rest r.names
  pub elements : Seeking s (ascii "elementList") es rest r.elements
  pub bonds : Seeking s (ascii "bondAtomList") es rest r.bonds
  pub orders : Seeking s (ascii "bondOrderList") es rest r.orders

-- more orders than pairs
pub too_many : (orders bonds : ℕ) → bonds / 2 < orders → orders * 2 ≡ bonds → ⊥
too_many orders bonds l e = omega arith

-- a turn of the search, where the key's part is read up to its end
module _ {s : List ℕ} {es rest : Entries} {key : Part} {left e : ℕ} (t : Turn s rest key left e) where
  pub seek-turn : {r : Places} → SeekAll s es rest r → SeekAll s es t.after (noted (take (key.at + key.count - key.at) (drop key.at s)) (key.at + key.count) r)
  seek-turn k =
      let l : key.at + key.count - key.at ≡ key.count = omega arith in
      rw l
      (record {
        charges = seeking-turn k.charges t;
        names = seeking-turn k.names t;
        elements = seeking-turn k.elements t;
        bonds = seeking-turn k.bonds t;
        orders = seeking-turn k.orders t;
      })

pub seek-start : {s : List ℕ} {es : Entries} → SeekAll s es es (record { charges = 0; names = 0; elements = 0; bonds = 0; orders = 0 })
seek-start = record { charges = seeking-start; names = seeking-start; elements = seeking-start; bonds = seeking-start; orders = seeking-start }

pub seek-end : {s : List ℕ} {es : Entries} {r : Places} (rest : Entries) → SeekAll s es rest r → size rest ≤ 0 → PlacesIn s es r
seek-end rest k l = record {
  charges = seeking-end rest k.charges l;
  names = seeking-end rest k.names l;
  elements = seeking-end rest k.elements l;
  bonds = seeking-end rest k.bonds l;
  orders = seeking-end rest k.orders l;
}

-- no entry is left: here they end
pub entries-end : {s : List ℕ} {p e : ℕ} (es : Entries) → AtEntries s p es e → size es ≤ 0 → p ≡ e
unfolding size WritesEntries
entries-end {s} {p} empty a l = sym (a.span.ends ∙ ap (λ (w : List ℕ). p + length w) a.writes ∙ add-zero p)
entries-end (entry k x es) a l = absurd (omega arith)

-- the entries of a map by its head
pub record MapAt (s : List ℕ) (x : Document) (n r e : ℕ) : Type 0 where
  pub counts : size (entries_of x) ≡ n
  pub all : AtEntries s r (entries_of x) e

pub map_at : {s : List ℕ} {p e n r : ℕ} (x : Document) → At s p x e → head_at s p ≡ some_head n r → kind_at s p ≡ Kind.Map → MapAt s x n r e
map_at {s} {p} {e} {n} {r} x a h q = go x a (read-heads x a q)
  where
    go : (z : Document) → At s p z e → heads z Kind.Map ≡ true → MapAt s z n r e
    go (map es) b g =
        let o = open-map b in
        let i = same-parts (sym o.told.head ∙ h) in
        let j : o.q ≡ r = i.1 in
        record { counts = i.0; all = subst (λ (m : ℕ). AtEntries s m es e) j o.all }
    go (string t) b g = clash g
    go (binary t) b g = clash g
    go (integer v) b g = clash g
    go (float bits) b g = clash g
    go (array ds) b g = clash g

-- what is no map has no lists
no-lists : {s : List ℕ} {p e : ℕ} (x : Document) → At s p x e → {k : Kind} → kind_at s p ≡ k → is_map k ≡ false → PlacesIn s (entries_of x) no_lists
no-lists x a q f = let n = no-entries x a q f in seek-end (entries_of x) seek-start (omega (arith, n.counts))

pub found_none : {s : List ℕ} {p e : ℕ} (x : Document) → At s p x e → {k : Kind} → kind_at s p ≡ k → is_map k ≡ false → {r : Found} → r.places ≡ no_lists → r.end ≡ e → FoundIn s (entries_of x) e r
found_none {s} x a q f l e = record { lists = subst (PlacesIn s (entries_of x)) (sym l) (no-lists x a q f); ends = e }

pub none-ordered : orders_right nothing ≡ true
unfolding all_pass
none-ordered = refl

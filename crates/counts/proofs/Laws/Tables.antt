-- The tables of atoms and bonds while the group types are judged, one after another. Assumes nothing.
use Rattle.std.specs.Prelude.{◌≡◌, refl, List, [], ◌∷◌, ◌++◌, length, get_or, drop, set}
use Rattle.std.proofs.Math.Path.{sym, ap, subst}
use Rattle.std.proofs.Common.{◌∙◌, append_assoc, arith, add-one, take-append-drop, drop-cons, drop-set-lt, take-suc-set, ne_eqb}
use Prim.Native.Nat.{ℕ, zero, suc, ◌+◌, ◌≤◌, ◌<◌}
use Rattle.std.proofs.Math.ListN.{take}
use Rattle.refusal.specs.Table.{accepted}
use Rattle.refusal.specs.First.{or_else}
use Rattle.refusal.proofs.Laws.First.{or_else-left}
use Rattle.messagepack.specs.Document.{Document, Documents, none, item, count}
use Rattle.values.specs.Places.{At, AtAll}
use Rattle.values.specs.Laws.Places.{open-item}
use Rattle.counts.specs.Group.{atoms_of, bonds_of, group_number, groups_number, each}
use Rattle.counts.specs.GroupPlaces.{GroupIs}
use Rattle.counts.specs.declared.groups.Group as g
use Rattle.counts.specs.Steps.{WalkedTypes, table_of}

-- what is said of group types in the end: rule 5's number, and what the tables hold
pub record Tables (types : Documents) (old-atoms old-bonds atoms bonds : List ℕ) (r : ℕ) : Type 0 where
  pub number : r ≡ groups_number types
  pub atoms_are : atoms ≡ table_of atoms_of types old-atoms
  pub bonds-are : bonds ≡ table_of bonds_of types old-bonds

-- rule 5 over the types: the first i of them are fine and stand in the tables, and the others are left
pub record Judged (s : List ℕ) (types : Documents) (i n p e : ℕ) (old-atoms old-bonds atoms bonds : List ℕ) : Type 0 where
  pub rest : Documents
  pub all : AtAll s p rest e
  pub counts : i + count rest ≡ n
  pub number : groups_number types ≡ groups_number rest
  pub atoms_are : table_of atoms_of types old-atoms ≡ take i atoms ++ table_of atoms_of rest (drop i atoms)
  pub bonds-are : table_of bonds_of types old-bonds ≡ take i bonds ++ table_of bonds_of rest (drop i bonds)

pub judged-start : {s : List ℕ} {types : Documents} {n p e : ℕ} {atoms bonds : List ℕ} → AtAll s p types e → count types ≡ n → Judged s types 0 n p e atoms bonds atoms bonds
judged-start {types = types} a c = record { rest = types; all = a; counts = omega arith; number = refl; atoms_are = refl; bonds-are = refl }

-- the next type
pub record NextType (s : List ℕ) (p e : ℕ) (rest : Documents) : Type 0 where
  pub x : Document
  pub after : Documents
  pub is : rest ≡ item x after
  pub q : ℕ
  pub first : At s p x q
  pub all : AtAll s q after e

next-type : {s : List ℕ} {p e : ℕ} (rest : Documents) → AtAll s p rest e → 0 < count rest → NextType s p e rest
unfolding count
next-type none a l = absurd (omega arith)
next-type (item x ds) a l = let o = open-item a in record { x = x; after = ds; is = refl; q = o.q; first = o.first; all = o.rest }

-- a table at its place i: the next type is fine, or refused
table-fine : (f : Document → ℕ) (x : Document) (after : Documents) (old : List ℕ) (i v : ℕ) → i < length old → group_number x ≡ accepted → v ≡ f x → take i old ++ table_of f (item x after) (drop i old) ≡ take (i + 1) (set old i v) ++ table_of f after (drop (i + 1) (set old i v))
unfolding table_of
table-fine f x after old i v lt z e =
    rw (add-one, drop-cons old i 0 lt, z, take-suc-set old i v lt, drop-set-lt (suc i) old i v (omega arith), append_assoc (take i old) (v ∷ []) (table_of f after (drop (suc i) old)), e)

table-refused : (f : Document → ℕ) (x : Document) (after : Documents) (old : List ℕ) (i : ℕ) → i < length old → (group_number x ≡ accepted → ⊥) → take i old ++ table_of f (item x after) (drop i old) ≡ old
unfolding table_of
table-refused f x after old i lt h = rw (drop-cons old i 0 lt, ne_eqb (group_number x) accepted h) (ap (λ (l : List ℕ). take i old ++ l) (sym (drop-cons old i 0 lt)) ∙ take-append-drop i old)

module _ {s : List ℕ} {types : Documents} {i n p e : ℕ} {old-atoms old-bonds atoms bonds : List ℕ} (k : Judged s types i n p e old-atoms old-bonds atoms bonds) (lt : i < n) where
  pub judged-next : NextType s p e k.rest
  judged-next = next-type k.rest k.all (omega (arith, k.counts))

  -- a type that is refused decides
  pub judged-refused : (r : ℕ) → (r ≡ accepted → ⊥) → r ≡ group_number judged-next.x → i < length atoms → i < length bonds → Tables types old-atoms old-bonds atoms bonds r
  unfolding groups_number
  judged-refused r h q la lb = record {
    number = refused r h q;
    atoms_are = sym (k.atoms_are ∙ ap (λ (z : Documents). take i atoms ++ table_of atoms_of z (drop i atoms)) judged-next.is ∙ table-refused atoms_of judged-next.x judged-next.after atoms i la (λ z. h (q ∙ z)));
    bonds-are = sym (k.bonds-are ∙ ap (λ (z : Documents). take i bonds ++ table_of bonds_of z (drop i bonds)) judged-next.is ∙ table-refused bonds_of judged-next.x judged-next.after bonds i lb (λ z. h (q ∙ z)));
  }
    where
      refused : (r : ℕ) → (r ≡ accepted → ⊥) → r ≡ group_number judged-next.x → r ≡ groups_number types
      refused zero h q = absurd (h refl)
      refused (suc r) h q = sym (k.number ∙ ap groups_number judged-next.is ∙ ap (λ (m : ℕ). or_else m (groups_number judged-next.after)) (sym q))

  -- a type that is fine stands in the tables
  pub judged-more : {q : ℕ} (g : g.Group) → accepted ≡ group_number judged-next.x → GroupIs judged-next.x judged-next.q g → q ≡ judged-next.q → i < length atoms → i < length bonds → Judged s types (i + 1) n q e old-atoms old-bonds (set atoms i g.atoms) (set bonds i g.bonds)
  unfolding groups_number count
  judged-more {q} g fine says end la lb =
      let m = judged-next in
      let c : i + suc (count m.after) ≡ n = sym (ap (λ (z : Documents). i + count z) m.is) ∙ k.counts in
      let z : group_number m.x ≡ accepted = sym fine in
      record {
        rest = m.after;
        all = subst (λ (j : ℕ). AtAll s j m.after e) (sym end) m.all;
        counts = omega arith;
        number = k.number ∙ ap groups_number m.is ∙ ap (λ (v : ℕ). or_else v (groups_number m.after)) z;
        atoms_are = k.atoms_are ∙ ap (λ (d : Documents). take i atoms ++ table_of atoms_of d (drop i atoms)) m.is ∙ table-fine atoms_of m.x m.after atoms i g.atoms la z says.atoms;
        bonds-are = k.bonds-are ∙ ap (λ (d : Documents). take i bonds ++ table_of bonds_of d (drop i bonds)) m.is ∙ table-fine bonds_of m.x m.after bonds i g.bonds lb z says.bonds;
      }

pub judged-end : {s : List ℕ} {types : Documents} {i n p e : ℕ} {old-atoms old-bonds atoms bonds : List ℕ} → Judged s types i n p e old-atoms old-bonds atoms bonds → n ≤ i → Tables types old-atoms old-bonds atoms bonds accepted
unfolding groups_number count table_of
judged-end {s} {types} {i} {n} {p} {e} {old-atoms} {old-bonds} {atoms} {bonds} k le = go k.rest k.counts k.number k.atoms_are k.bonds-are
  where
    go : (rest : Documents) → i + count rest ≡ n → groups_number types ≡ groups_number rest → table_of atoms_of types old-atoms ≡ take i atoms ++ table_of atoms_of rest (drop i atoms) → table_of bonds_of types old-bonds ≡ take i bonds ++ table_of bonds_of rest (drop i bonds) → Tables types old-atoms old-bonds atoms bonds accepted
    go none q r x y = record { number = sym r; atoms_are = sym (x ∙ take-append-drop i atoms); bonds-are = sym (y ∙ take-append-drop i bonds) }
    go (item d ds) q r x y = absurd (omega arith)

-- where all types pass, a table begins with a number of each
table-each : (f : Document → ℕ) (types : Documents) (old : List ℕ) → groups_number types ≡ accepted → count types ≤ length old → (i : ℕ) → i < count types → get_or (table_of f types old) i 0 ≡ get_or (each f types) i 0
unfolding groups_number count table_of each
table-each f none old z l i lt = absurd (omega arith)
table-each f (item x types) [] z l i lt = absurd (omega arith)
table-each f (item x types) (o ∷ old) z l zero lt = rw (or_else-left (group_number x) (groups_number types) z)
table-each f (item x types) (o ∷ old) z l (suc i) lt = rw (or_else-left (group_number x) (groups_number types) z) (table-each f types old (rw (or_else-left (group_number x) (groups_number types) z) at z) (omega arith) i (omega arith))

pub filled-each : (f : Document → ℕ) (types : Documents) (old : List ℕ) {new : List ℕ} → new ≡ table_of f types old → groups_number types ≡ accepted → count types ≤ length old → (i : ℕ) → i < count types → get_or new i 0 ≡ get_or (each f types) i 0
filled-each f types old e z l i lt = ap (λ (v : List ℕ). get_or v i 0) e ∙ table-each f types old z l i lt

-- the three promises on the types, from what is said of them
pub tables-said : {file : List ℕ} {n at : ℕ} {old-atoms old-bonds atoms bonds : List ℕ} {r : ℕ} → WalkedTypes file n at (λ ts. Tables ts old-atoms old-bonds atoms bonds r) → WalkedTypes file n at (λ ts. r ≡ groups_number ts) × (WalkedTypes file n at (λ ts. atoms ≡ table_of atoms_of ts old-atoms) × WalkedTypes file n at (λ ts. bonds ≡ table_of bonds_of ts old-bonds))
tables-said f = (λ l ts e a k. (f l ts e a k).number, (λ l ts e a k. (f l ts e a k).atoms_are, λ l ts e a k. (f l ts e a k).bonds-are))

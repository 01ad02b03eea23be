-- What the functions of the module `groups` say of a group type at a place. No lemma stands here. Assumes nothing.
use Rattle.std.specs.Prelude.{◌≡◌, Bool, true, false, cond, ◌&&◌, Option as Answer, Some, None, Result, IfOk, List, ℕ, ◌*◌, ◌%◌, eqb}
use Rattle.refusal.specs.declared.Refusal.{Refusal}
use Rattle.refusal.specs.Outcome.{number_of}
use Rattle.messagepack.specs.Document.{Document, Entries, count}
use Rattle.text.specs.Equal.{equal}
use Rattle.text.specs.Ascii.{ascii}
use Rattle.values.specs.Parts.{entries_of, look, under, items_in}
use Rattle.values.specs.Places.{PlaceSays}
use Rattle.values.specs.Walked.{WalkedBy}
use Rattle.counts.specs.Group.{atoms_of, bonds_of, group_number}
use Rattle.counts.specs.declared.groups.Places.{Places}
use Rattle.counts.specs.declared.groups.Found.{Found}
use Rattle.counts.specs.declared.groups.Group.{Group}
use Rattle.values.specs.Integers.{array_length}

-- the places of a group type's lists among its entries
pub record PlacesIn (s : List ℕ) (es : Entries) (r : Places) : Type 0 where
  pub charges : PlaceSays s r.charges (look (ascii "formalChargeList") es)
  pub names : PlaceSays s r.names (look (ascii "atomNameList") es)
  pub elements : PlaceSays s r.elements (look (ascii "elementList") es)
  pub bonds : PlaceSays s r.bonds (look (ascii "bondAtomList") es)
  pub orders : PlaceSays s r.orders (look (ascii "bondOrderList") es)

-- the places of a group type's lists, and its end
pub record FoundIn (s : List ℕ) (es : Entries) (e : ℕ) (r : Found) : Type 0 where
  pub lists : PlacesIn s es r.places
  pub ends : r.end ≡ e

-- no lists
abbrev pub no_lists : Places
no_lists = record { charges = 0; names = 0; elements = 0; bonds = 0; orders = 0 }

-- the places with a value under a key more
abbrev pub noted : List ℕ → ℕ → Places → Places
noted key value r =
    record {
      charges = cond (equal key (ascii "formalChargeList")) value r.charges;
      names = cond (equal key (ascii "atomNameList")) value r.names;
      elements = cond (equal key (ascii "elementList")) value r.elements;
      bonds = cond (equal key (ascii "bondAtomList")) value r.bonds;
      orders = cond (equal key (ascii "bondOrderList")) value r.orders;
    }

-- `bonds_agree` by the lengths of the two lists, where they are there
abbrev pub agrees : Answer ℕ → Answer ℕ → Bool
agrees None None = true
agrees None (Some orders) = false
agrees (Some bonds) None = eqb (bonds % 2) 0
agrees (Some bonds) (Some orders) = eqb (bonds % 2) 0 && eqb (orders * 2) bonds

-- a promise on a walked file by a group type whose lists stand at places
abbrev pub WalkedLists : List ℕ → Places → (Document → Type 0) → Type 0
WalkedLists file places P = WalkedBy (λ x. PlacesIn file (entries_of x) places) P

-- the lengths of a group type's lists
pub record Lengths (x : Document) (atoms charges elements : ℕ) (bonds orders : Answer ℕ) : Type 0 where
  pub atoms_are : atoms ≡ atoms_of x
  pub charges-are : charges ≡ count (items_in (under "formalChargeList" x))
  pub elements-are : elements ≡ count (items_in (under "elementList" x))
  pub bonds-are : bonds ≡ array_length (under "bondAtomList" x)
  pub orders-are : orders ≡ array_length (under "bondOrderList" x)

-- a group type that is not refused: its atoms, its bonds and its end
pub record GroupIs (x : Document) (e : ℕ) (g : Group) : Type 0 where
  pub atoms : g.atoms ≡ atoms_of x
  pub bonds : g.bonds ≡ bonds_of x
  pub ends : g.end ≡ e

-- the answer for a group type
pub record GroupSays (x : Document) (e : ℕ) (r : Result Group Refusal) : Type 0 where
  pub number : number_of r ≡ group_number x
  pub group : IfOk r (λ g. GroupIs x e g)

-- For the code inside: the part that shows a value, and the entries that a search has not looked at. No lemma stands here. Assumes nothing.
use Rattle.std.specs.Prelude.{◌≡◌, List, ◌++◌, ℕ, ◌+◌, ◌-◌, ◌≤◌, length, drop}
use Rattle.refusal.specs.Table.{accepted}
use Rattle.messagepack.specs.Document.{Document, Entries, size, Writes, WritesEntries}
use Rattle.messagepack.specs.Rules.{depth_entries, KeepsEntries, Container}
use Rattle.messagepack.specs.Walk.{container_number}
use Rattle.messagepack.specs.Outer.{outer_levels, keys_of}
use Rattle.views.specs.View.{shown}
use Rattle.views.specs.Place.{Place, some_part}

-- the place of the part that shows a value with the writing w, which stands at another place
abbrev pub shown_place : ℕ → Document → List ℕ → Place
shown_place at x w = some_part (at + (length w - length (shown x w))) (length (shown x w))

-- a place is that of the part that shows the value at another, whatever document stands there
abbrev pub ShowsAt : List ℕ → ℕ → Place → Type 0
ShowsAt s at r = (x : Document) (w v : List ℕ) → Writes x w → drop at s ≡ w ++ v → r ≡ shown_place at x w

-- from a place up to the end of the file stand so many entries, which keep the rules
pub record Ahead (s : List ℕ) (left p : ℕ) : Type 0 where
  pub entries : Entries
  pub writes : WritesEntries entries (drop p s)
  pub counts : size entries ≡ left
  pub nested : depth_entries entries ≤ outer_levels
  pub keeps : KeepsEntries entries

-- the places of the outer keys of a container
pub record Keyed (s places : List ℕ) : Type 0 where
  pub container : Container s
  pub passed : container_number s ≡ accepted
  pub are : places ≡ keys_of s

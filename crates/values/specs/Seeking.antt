-- The value under a key of a map, by its place: what the search for it says, and what is left of it. No lemma stands here: the laws are in
-- Laws/Seeking.antt. Assumes nothing.
use Rattle.std.specs.Prelude.{◌≡◌, List, ℕ, ◌<◌}
use Rattle.messagepack.specs.Document.{Entries}
use Rattle.messagepack.specs.Rules.{NoKey}
use Rattle.values.specs.Places.{PlaceSays}
use Rattle.values.specs.Parts.{look}

-- a search for a name among entries, of which some are left: not found yet, or found at a place and not among those that are left
pub data Seeking (s name : List ℕ) (es rest : Entries) : ℕ → Type 0 where
  seek : look name es ≡ look name rest → Seeking s name es rest 0
  found : {p : ℕ} → 0 < p → PlaceSays s p (look name es) → NoKey name rest → Seeking s name es rest p

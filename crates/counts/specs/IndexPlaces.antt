-- What the functions of the module `indices` say of a map at a place. No lemma stands here. Assumes nothing.
use Rattle.std.specs.Prelude.{◌≡◌, List, ℕ}
use Rattle.messagepack.specs.Document.{Entries}
use Rattle.text.specs.Ascii.{ascii}
use Rattle.values.specs.Parts.{look}
use Rattle.values.specs.Places.{PlaceSays}
use Rattle.counts.specs.declared.indices.List as l

-- the place of the list of chains among a map's entries, and where these end
pub record ListIn (s : List ℕ) (es : Entries) (e : ℕ) (r : l.List) : Type 0 where
  pub says : PlaceSays s r.at (look (ascii "chainIndexList") es)
  pub ends : r.end ≡ e

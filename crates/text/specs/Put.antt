-- Text put into a buffer. What the contracts of this crate and of those above it cite. No lemma stands here: the
-- laws are in Laws/Put.antt. Assumes nothing.
use Rattle.std.specs.Prelude.{◌≡◌, List, ℕ, ◌+◌, ◌-◌, min, length}
use Rattle.std.proofs.lemmas.List.Edits.{sets}

-- The bytes `text` were put into the buffer `old` from `at` on: each is stored in its place, those past the end are left out, and everything
-- else is as it was. `next` is the place after them.
pub record Put (old : List ℕ) (at : ℕ) (text new : List ℕ) (next : ℕ) : Type 0 where
  pub bytes : new ≡ sets old at text
  pub place : next ≡ at + min (length text) (length old - at)

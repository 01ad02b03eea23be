-- Laws of the parts of documents: looking up a key. Assumes nothing.
use Rattle.std.specs.Prelude.{◌≡◌, refl, List, ℕ}
use Rattle.std.proofs.Common.{sym}
use Rattle.std.proofs.Math.Option.{none as nothing}
use Rattle.text.specs.Laws.Equal.{equal-false}
use Rattle.messagepack.specs.Document.{Entries, empty, entry}
use Rattle.messagepack.specs.Rules.{NoKey}
use Rattle.values.specs.Parts.{look}

-- a key that is not there has no value
pub look_none : (k : List ℕ) (es : Entries) → NoKey k es → look k es ≡ nothing
unfolding look NoKey
look_none k empty h = refl
look_none k (entry l x es) h = rw (equal-false l k (λ e. h.0 (sym e))) (look_none k es h.1)

-- Keys that are new among some keys. Assumes nothing.
use Rattle.std.specs.Prelude.{◌≡◌, ℕ, Bool, true, false, ◌||◌, List, [], ◌∷◌, ◌≢◌, refl}
use Rattle.std.proofs.Common.{sym, arith}
use Rattle.text.specs.Equal.{equal}
use Rattle.text.specs.Laws.Equal.{equal-false, false-equal}
use Rattle.messagepack.specs.Document.{Entries, empty, entry}
use Rattle.messagepack.specs.Rules.{NoKey}
use Rattle.messagepack.specs.Walk.{among}

-- none of the entries' keys is among ks
unfoldable pub Fresh : List (List ℕ) → Entries → Type 0
Fresh ks empty = Unit {0}
Fresh ks (entry k d es) = (among k ks ≡ false) × Fresh ks es

pub fresh-none : (es : Entries) → Fresh [] es
unfolding Fresh among
fresh-none empty = tt
fresh-none (entry k d es) = (refl, fresh-none es)

-- what is new after k and ks is new after ks, and is not k
pub fresh-rest : (k : List ℕ) (ks : List (List ℕ)) (es : Entries) → Fresh (k ∷ ks) es → Fresh ks es × NoKey k es
unfolding Fresh among NoKey
fresh-rest k ks empty h = (tt, tt)
fresh-rest k ks (entry l d es) h = go (equal l k) refl h.0 (fresh-rest k ks es h.1)
  where
    go : (t : Bool) → equal l k ≡ t → t || among l ks ≡ false → Fresh ks es × NoKey k es → ((among l ks ≡ false) × Fresh ks es) × ((k ≢ l) × NoKey k es)
    go true e q r = let z : ◌≡◌ {A = ℕ} 0 1 = cc in absurd (omega arith)
    go false e q r = ((q, r.0), ((λ (p : k ≡ l). false-equal l k e (sym p)), r.1))

pub fresh-more : (k : List ℕ) (ks : List (List ℕ)) (es : Entries) → Fresh ks es → NoKey k es → Fresh (k ∷ ks) es
unfolding Fresh among NoKey
fresh-more k ks empty h n = tt
fresh-more k ks (entry l d es) h n = (rw (equal-false l k (λ (e : l ≡ k). n.0 (sym e))) h.0, fresh-more k ks es h.1 n.1)

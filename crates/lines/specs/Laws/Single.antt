-- Laws of single values as text: byte by byte, and every byte that breaks a line is put as \xNN. Assumes nothing.
use Rattle.std.specs.Prelude.{◌≡◌, refl, List, [], ◌∷◌, ◌++◌, ℕ}
use Rattle.std.proofs.Common.{append_assoc, append-nil}
use Rattle.lines.specs.Single.{byte_text, escaped}

pub escaped-none : (mark : ℕ) → escaped mark [] ≡ []
unfolding escaped
escaped-none mark = refl

-- a byte more at the end
pub escaped-last : (mark : ℕ) (s : List ℕ) (b : ℕ) → escaped mark (s ++ (b ∷ [])) ≡ escaped mark s ++ byte_text mark b
unfolding escaped
escaped-last mark [] b = simp append-nil
escaped-last mark (a ∷ s) b = rw (escaped-last mark s b) (simp append_assoc)

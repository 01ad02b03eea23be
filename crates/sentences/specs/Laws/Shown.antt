-- Laws of what stands for bytes, one after the other, and of how a word is shown: every byte prints, so that no line feed is among them.
-- Assumes nothing.
use Rattle.std.specs.Prelude.{◌≡◌, refl, Bool, true, false, cond, List, [], ◌∷◌, ◌++◌, ℕ, ◌+◌, ◌/◌, ◌%◌, ◌<◌, ◌≤◌, ltb}
use Rattle.std.proofs.Common.{append_assoc, append-nil, arith, le-ltb, ne_eqb}
use Rattle.text.specs.Decimal.{glyph}
use Rattle.sentences.specs.Shown.{replaced, printing, shown_byte, shown}

pub replaced-none : (f : ℕ → List ℕ) → replaced f [] ≡ []
unfolding replaced
replaced-none f = refl

-- a byte more at the end
pub replaced-last : (f : ℕ → List ℕ) (s : List ℕ) (b : ℕ) → replaced f (s ++ (b ∷ [])) ≡ replaced f s ++ f b
unfolding replaced
replaced-last f [] b = simp append-nil
replaced-last f (a ∷ s) b = rw (replaced-last f s b) (simp append_assoc)

-- every byte of a list prints
pub data Prints : List ℕ → Type 0 where
  none : Prints []
  more : {b : ℕ} {s : List ℕ} → printing b ≡ true → Prints s → Prints (b ∷ s)

prints-join : {s t : List ℕ} → Prints s → Prints t → Prints (s ++ t)
prints-join none q = q
prints-join (more h p) q = more h (prints-join p q)

-- a number between 32 and 126 prints
prints-between : (n : ℕ) → 32 ≤ n → n < 127 → printing n ≡ true
prints-between n h k = rw (le-ltb n 32 h, ne_eqb n 127 (λ e. omega arith))

prints-glyph : (n : ℕ) → printing (glyph n) ≡ true
prints-glyph n = go (ltb (n % 16) 10)
  where
    go : (t : Bool) → printing (cond t (48 + n % 16) (87 + n % 16)) ≡ true
    go true = prints-between (48 + n % 16) (omega arith) (omega arith)
    go false = prints-between (87 + n % 16) (omega arith) (omega arith)

prints-byte : (b : ℕ) → Prints (shown_byte b)
prints-byte b = go (printing b) refl
  where
    go : (t : Bool) → printing b ≡ t → Prints (cond t (b ∷ []) (92 ∷ 120 ∷ glyph (b / 16) ∷ glyph (b % 16) ∷ []))
    go true e = more e none
    go false e = more refl (more refl (more (prints-glyph (b / 16)) (more (prints-glyph (b % 16)) none)))

-- whatever a word holds, every byte that is shown of it prints
pub shown-prints : (s : List ℕ) → Prints (shown s)
unfolding replaced
shown-prints [] = none
shown-prints (b ∷ s) = prints-join (prints-byte b) (shown-prints s)

-- Laws of bytes as numbers with signs: a byte is the lowest byte of its number. Assumes nothing.
use Rattle.std.specs.Prelude.{◌≡◌, refl, Bool, true, false, List, [], ◌∷◌, map, ℕ, suc, ◌-◌, ◌%◌, ◌<◌, ltb}
use Rattle.std.proofs.Common.{ap, ap₂, ◌∙◌, mod-eq_of_lt, arith, to_z, ltb-true, ltb-false}
use Rattle.std.specs.Int.{w8}
use Rattle.std.proofs.Math.Facts.{to_z_pos}
use Rattle.numbers.specs.BigEndian.{Bytes}
use Rattle.steps.specs.declared.Size.TheVariants.{One}
use Rattle.steps.specs.Numbers.{numbers_in}
use Rattle.steps.proofs.Laws.Names.{numbers-bytes, high_byte}
use Rattle.decoding.specs.Calls.{as_byte}

-- a byte is the lowest byte of its number
low_byte : (x : ℕ) → x < 256 → as_byte (to_z w8 x) ≡ x
low_byte x h = by (ltb x 128) refl
  where
    high : (k : ℕ) → k < 256 → (4294967296 - suc k) % 256 ≡ 256 - suc k
    high k h = omega arith

    by : (t : Bool) → ltb x 128 ≡ t → as_byte (to_z w8 x) ≡ x
    by true e = ap as_byte (to_z_pos w8 {n = x} (ltb-true x 128 e)) ∙ mod-eq_of_lt h
    by false e =
        let l = ltb-false x 128 e in
        let q : 256 - suc (255 - x) ≡ x = omega arith in
        ap as_byte (high_byte x (omega arith) h) ∙ high (255 - x) (omega arith) ∙ q

-- names as bytes
pub bytes-numbers : (s : List ℕ) → Bytes s → map as_byte (numbers_in One s) ≡ s
unfolding Bytes
bytes-numbers s b = ap (map as_byte) (numbers-bytes s) ∙ back s b
  where
    back : (l : List ℕ) → Bytes l → map as_byte (map (to_z w8) l) ≡ l
    back [] h = refl
    back (x ∷ l) h = ap₂ (λ (y : ℕ) (k : List ℕ). y ∷ k) (low_byte x (h 0 (omega arith))) (back l (λ i k. h (suc i) (omega arith)))

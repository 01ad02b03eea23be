-- The bits of a signed number, once over the width: what `to_u16` and `to_u32` need.
-- The complement of a negative number's bits is small, so it is read as itself; a number that is not negative is its own bits.
-- Assumes nothing.
use mathlib.Core.Path.{◌≡◌, ap}
use mathlib.Core.Bool.{true, false}
use Prim.Native.Nat.{ℕ, ◌-◌, ◌^◌, ◌<◌, ◌≤◌}
use native.Mathlib.Omega.{arith}
use lib.Dec.{T}
use lib.IntN.{ℤ, pos, negsuc, nat_abs}
use lib.Signed.{lt_z, non_neg}
use mir.Syntax.{Width}
use mir.Val.{bits, hbits, SFits, Fits, to_z, of_z}
use mir.ValLaws.{half_full}
use mir.Facts.{to_z-of_z, to_z_pos, Fits-of_z}
use borrow.Author.Tests.{ltb-true}

-- the complement of the bits of z
abbrev pub complement : Width → ℤ → ℕ
complement w z = 2 ^ bits w - 1 - of_z w z

module _ (w : Width) where
  complement-small : (z : ℤ) → SFits w z → lt_z (to_z w (of_z w z)) (pos 0) ≡ true → complement w z < 2 ^ hbits w
  complement-small (pos n) f t =
      let e = rw (to_z-of_z {w = w} f) at t in
      let h : n < 0 = ltb-true n 0 e in
      absurd (omega arith)
  complement-small (negsuc n) f t = omega (arith, half_full w f.sfits, f.sfits)

  own_bits : (z : ℤ) → SFits w z → lt_z (to_z w (of_z w z)) (pos 0) ≡ false → to_z w (of_z w z) ≡ pos (of_z w z)
  own_bits (pos n) f t = to_z-of_z {w = w} f
  own_bits (negsuc n) f t =
      let e = rw (to_z-of_z {w = w} f) at t in
      let z : ◌≡◌ {A = ℕ} 0 1 = cc in
      absurd (omega arith)

module _ (w : Width) {z : ℤ} (f : SFits w z) (negative : lt_z (to_z w (of_z w z)) (pos 0) ≡ true) where
  read-complement : to_z w (complement w z) ≡ pos (complement w z)
  read-complement = to_z_pos w (complement-small w z f negative)

  pub negative-cast : T (non_neg (to_z w (complement w z))) × Fits w (nat_abs (to_z w (complement w z)))
  negative-cast = rw read-complement (tt, record { fits = half_full w (complement-small w z f negative) })

  pub negative-sub : nat_abs (to_z w (complement w z)) ≤ 2 ^ bits w - 1
  negative-sub = rw read-complement (omega arith)

  pub negative-returns : 2 ^ bits w - 1 - nat_abs (to_z w (complement w z)) ≡ of_z w z
  negative-returns = rw read-complement (omega (arith, (Fits-of_z {w = w} f).fits))

module _ (w : Width) {z : ℤ} (f : SFits w z) (other : lt_z (to_z w (of_z w z)) (pos 0) ≡ false) where
  pub other-cast : T (non_neg (to_z w (of_z w z))) × Fits w (nat_abs (to_z w (of_z w z)))
  other-cast = rw (own_bits w z f other) (tt, Fits-of_z {w = w} f)

  pub other-returns : nat_abs (to_z w (of_z w z)) ≡ of_z w z
  other-returns = ap nat_abs (own_bits w z f other)

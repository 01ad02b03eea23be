-- Numbers into bytes and back, once over their size. Assumes nothing.
use Rattle.std.specs.Prelude.{◌≡◌, ℕ, zero, suc, ◌+◌, ◌-◌, ◌*◌, ◌/◌, ◌%◌, ◌^◌, ◌<◌, ◌≤◌, Bool, true, false, cond, List, [], ◌∷◌, length, take, drop, ℤ, pos, negsuc, FitsSigned, nat_lt, refl}
use Rattle.std.proofs.Common.{◌∙◌, mul-div_cancel, div-add-mod', length-append, length-drop, take_at, drop_at, take_all, length-take-le, to_z-of_z, ltb-true, ltb-false}
use Rattle.std.proofs.Math.Nat.{zero-mul}
use native.Mathlib.Omega.{arith}
use Rattle.std.proofs.Math.Seq.{take-add}
use Rattle.std.specs.Int.{w8, w16, w32}
use mir.Val.{bits, hbits, Fits, to_z, of_z}
use Rattle.std.proofs.Math.Facts.{of_z-to_z, Fits-of_z, sfits_widen}
use Rattle.numbers.specs.BigEndian.{Bytes, number_of, bytes_of, bytes_in, unsigned_at, signed_at}
use Rattle.numbers.specs.Laws.BigEndian.{part_bytes, drop-bytes, length-bytes_of, number_of-bound, number_of-bytes_of, bytes_of-number_of}
use Rattle.steps.specs.declared.Size.{Size}
use Rattle.steps.specs.declared.Size.TheVariants.{One, Two, Four}
use Rattle.steps.specs.Width.{width_of, size_of}
use Rattle.steps.specs.Numbers.{first_numbers, numbers_in, bytes_for}
use Rattle.steps.specs.Fits.{Every, AllFit}
use Rattle.steps.proofs.Laws.Numbers.{size-pos}

-- the numbers of a size are those of its bytes
pow-size : (z : Size) → 256 ^ size_of z ≡ 2 ^ bits (width_of z)
pow-size One = refl
pow-size Two = refl
pow-size Four = refl

-- Bytes of numbers

pub length-bytes_for : (z : Size) (xs : List ℤ) → length (bytes_for z xs) ≡ length xs * size_of z
unfolding bytes_for
length-bytes_for z [] = omega arith
length-bytes_for z (x ∷ xs) =
    length-append (bytes_of (size_of z) (of_z (width_of z) x)) (bytes_for z xs) ∙ rw (length-bytes_of (size_of z) (of_z (width_of z) x), length-bytes_for z xs) (omega arith)

first-of-bytes : (z : Size) (xs : List ℤ) → AllFit (width_of z) xs → first_numbers z (length xs) (bytes_for z xs) ≡ xs
unfolding first_numbers bytes_for Every
first-of-bytes z [] f = refl
first-of-bytes z (x ∷ xs) f =
    let n = of_z (width_of z) x in
    let l = length-bytes_of (size_of z) n in
    let b : n < 256 ^ size_of z = rw (pow-size z) (Fits-of_z {w = width_of z} f.0).fits in
    let t = take_at (bytes_of (size_of z) n) (bytes_for z xs) (size_of z) l in
    let d = drop_at (bytes_of (size_of z) n) (bytes_for z xs) (size_of z) l in
    rw (t, d, number_of-bytes_of (size_of z) n b, to_z-of_z {w = width_of z} f.0, first-of-bytes z xs f.1)

-- numbers that fit, written and read
pub numbers_in-bytes_for : (z : Size) (xs : List ℤ) → AllFit (width_of z) xs → numbers_in z (bytes_for z xs) ≡ xs
unfolding numbers_in
numbers_in-bytes_for z xs f = rw (length-bytes_for z xs, mul-div_cancel (length xs) (size-pos z)) (first-of-bytes z xs f)

-- Numbers of bytes

-- every number of a payload has its width, whatever stands there
pub number_fits : (z : Size) (n : ℕ) → FitsSigned (width_of z) (to_z (width_of z) n)
number_fits z n = by z (nat_lt n (2 ^ hbits (width_of z))) refl
  where
    by : (z : Size) (t : Bool) → nat_lt n (2 ^ hbits (width_of z)) ≡ t → FitsSigned (width_of z) (cond t (pos n) (negsuc (2 ^ bits (width_of z) - suc n)))
    by z true e = record { sfits = ltb-true n (2 ^ hbits (width_of z)) e }
    by One false e = record { sfits = omega (arith, ltb-false n 128 e) }
    by Two false e = record { sfits = omega (arith, ltb-false n 32768 e) }
    by Four false e = record { sfits = omega (arith, ltb-false n 2147483648 e) }

pub numbers_in-fit : (z : Size) (s : List ℕ) → AllFit (width_of z) (numbers_in z s)
unfolding numbers_in first_numbers Every
numbers_in-fit z s = first (length s / size_of z) s
  where
    first : (n : ℕ) (s : List ℕ) → AllFit (width_of z) (first_numbers z n s)
    first zero s = tt
    first (suc n) s = (number_fits z (number_of (take (size_of z) s)), first n (drop (size_of z) s))

pub signed_at-fits : (z : Size) (s : List ℕ) (at : ℕ) → FitsSigned (width_of z) (signed_at (width_of z) s at)
unfolding signed_at
signed_at-fits z s at = number_fits z (unsigned_at (bytes_in (width_of z)) s at)

pub signed_at-32 : (z : Size) (s : List ℕ) (at : ℕ) → FitsSigned w32 (signed_at (width_of z) s at)
signed_at-32 One s at = sfits_widen {w = w8} {w' = w32} tt (signed_at-fits One s at)
signed_at-32 Two s at = sfits_widen {w = w16} {w' = w32} tt (signed_at-fits Two s at)
signed_at-32 Four s at = signed_at-fits Four s at

module _ (z : Size) (s : List ℕ) (h : Bytes s) (k : size_of z ≤ length s) where
  bits_fit : Fits (width_of z) (number_of (take (size_of z) s))
  bits_fit =
      let l : length (take (size_of z) s) ≡ size_of z = length-take-le (size_of z) s k in
      let b : number_of (take (size_of z) s) < 256 ^ length (take (size_of z) s) = number_of-bound (take (size_of z) s) (part_bytes s 0 (size_of z) (omega arith) h) in
      record { fits = rw (l, pow-size z) at b }

  number-bytes : bytes_of (size_of z) (of_z (width_of z) (to_z (width_of z) (number_of (take (size_of z) s)))) ≡ take (size_of z) s
  number-bytes =
      let l : length (take (size_of z) s) ≡ size_of z = length-take-le (size_of z) s k in
      let b : bytes_of (length (take (size_of z) s)) (number_of (take (size_of z) s)) ≡ take (size_of z) s = bytes_of-number_of (take (size_of z) s) (part_bytes s 0 (size_of z) (omega arith) h) in
      rw (of_z-to_z {w = width_of z} bits_fit) (rw l at b)

-- n numbers that are all inside
module _ (z : Size) where
  after : (n : ℕ) (s : List ℕ) → suc n * size_of z ≤ length s → (size_of z ≤ length s) × (n * size_of z ≤ length (drop (size_of z) s))
  after n s k = (omega arith, rw length-drop (omega arith))

  bytes-of-first : (n : ℕ) (s : List ℕ) → Bytes s → n * size_of z ≤ length s → bytes_for z (first_numbers z n s) ≡ take (n * size_of z) s
  unfolding first_numbers bytes_for
  bytes-of-first zero s h k = rw zero-mul
  bytes-of-first (suc n) s h k =
      let a = after n s k in
      let e : suc n * size_of z ≡ size_of z + n * size_of z = omega arith in
      rw (e, take-add (size_of z) (n * size_of z) s, number-bytes z s h a.0, bytes-of-first n (drop (size_of z) s) (drop-bytes (size_of z) s h) a.1)

-- bytes that are whole numbers, read and written
pub bytes_for-numbers_in : (z : Size) (s : List ℕ) → Bytes s → length s % size_of z ≡ 0 → bytes_for z (numbers_in z s) ≡ s
unfolding numbers_in
bytes_for-numbers_in z s h e =
    let l = div-add-mod' (length s) (size_of z) in
    bytes-of-first z (length s / size_of z) s h (omega arith) ∙ take_all (length s / size_of z * size_of z) s (omega arith)

-- Laws of the bytes of numbers: one number more, a number by its 32 bits, and its bytes in the other order. Assumes nothing.
use Rattle.std.specs.Prelude.{◌≡◌, ℕ, suc, ◌+◌, ◌-◌, ◌*◌, ◌/◌, ◌%◌, ◌^◌, ◌<◌, List, [], ◌∷◌, ◌++◌, ℤ, pos, negsuc, FitsSigned, refl}
use Rattle.std.proofs.Common.{sym, ap, ◌∙◌, append_assoc, mod-eq_of_lt, arith, to_z, of_z, to_z-of_z}
use Rattle.std.specs.Int.Signed.{mag}
use Rattle.std.specs.Int.{w32}
use Rattle.std.proofs.Math.Facts.{of_z-to_z}
use Rattle.numbers.specs.BigEndian.{bytes_of}
use Rattle.numbers.specs.Laws.BigEndian.{bytes_of-above}
use Rattle.steps.specs.declared.Size.{Size}
use Rattle.steps.specs.declared.Size.TheVariants.{One, Two, Four}
use Rattle.steps.specs.Width.{width_of, size_of, lower}
use Rattle.steps.specs.Numbers.{bytes_for}
use Rattle.writers.specs.Bits.{Swapped}

pub bytes_for-cons : (z : Size) (x : ℤ) (xs : List ℤ) → bytes_for z (x ∷ xs) ≡ bytes_of (size_of z) (of_z (width_of z) x) ++ bytes_for z xs
unfolding bytes_for
bytes_for-cons z x xs = refl

pub bytes_for-nil : (z : Size) → bytes_for z [] ≡ []
unfolding bytes_for
bytes_for-nil z = refl

pub bytes_for-append : (z : Size) (xs ys : List ℤ) → bytes_for z (xs ++ ys) ≡ bytes_for z xs ++ bytes_for z ys
unfolding bytes_for
bytes_for-append z [] ys = refl
bytes_for-append z (x ∷ xs) ys = rw (bytes_for-append z xs ys) (sym (append_assoc (bytes_of (size_of z) (of_z (width_of z) x)) (bytes_for z xs) (bytes_for z ys)))

-- the low bytes of a number that its size holds, by its 32 bits
pub bytes_of-narrow : (z : Size) (x : ℤ) → mag x < lower z → bytes_of (size_of z) (of_z w32 x) ≡ bytes_of (size_of z) (of_z (width_of z) x)
bytes_of-narrow z (pos n) h = refl
bytes_of-narrow One (negsuc n) h = let e : 4294967296 - suc n ≡ 16777215 * 256 ^ 1 + (256 - suc n) = omega arith in rw e (bytes_of-above 1 16777215 (256 - suc n))
bytes_of-narrow Two (negsuc n) h = let e : 4294967296 - suc n ≡ 65535 * 256 ^ 2 + (65536 - suc n) = omega arith in rw e (bytes_of-above 2 65535 (65536 - suc n))
bytes_of-narrow Four (negsuc n) h = refl

-- the bits of a number that was read, and back
pub bits_back : {u : ℕ} {y : ℤ} → FitsSigned w32 y → u ≡ of_z w32 (to_z w32 (of_z w32 y)) → to_z w32 u ≡ y
bits_back {u} {y} f e = ap (to_z w32) (e ∙ ap (of_z w32) (to_z-of_z {w = w32} f)) ∙ to_z-of_z {w = w32} f

pub bits-same : (u : ℕ) → u < 4294967296 → of_z w32 (to_z w32 u) ≡ u
bits-same u h = of_z-to_z {w = w32} (record { fits = h })

-- the bytes of as many numbers as a slice has
pub size-product : (z : Size) (n : ℕ) → n * 4 < 9223372036854775808 → n * size_of z < 18446744073709551616
size-product One n h = omega arith
size-product Two n h = omega arith
size-product Four n h = omega arith

-- four bytes put together in the other order
digits : (a b c d r : ℕ) → a < 256 → b < 256 → c < 256 → d < 256 → r ≡ ((d * 256 + c) * 256 + b) * 256 + a
    → (r % 256 ≡ a) × (r / 256 % 256 ≡ b) × (r / 256 / 256 % 256 ≡ c) × (r / 256 / 256 / 256 % 256 ≡ d)
digits a b c d r ha hb hc hd e =
    let p : r / 256 ≡ (d * 256 + c) * 256 + b = omega arith in
    let q : r / 256 / 256 ≡ d * 256 + c = omega arith in
    let t : r / 256 / 256 / 256 ≡ d = omega arith in
    (omega arith, omega arith, omega arith, omega arith)

pub swapped-bytes : (n : ℕ) → n < 4294967296 → Swapped n (((n % 256 * 256 + n / 256 % 256) * 256 + n / 256 / 256 % 256) * 256 + n / 256 / 256 / 256)
swapped-bytes n h =
    let l : n / 256 / 256 / 256 < 256 = omega arith in
    let w = digits (n / 256 / 256 / 256) (n / 256 / 256 % 256) (n / 256 % 256) (n % 256) _ l (omega arith) (omega arith) (omega arith) refl in
    record { first = w.0 ∙ sym (mod-eq_of_lt l); second = w.1; third = w.2; fourth = w.3 }

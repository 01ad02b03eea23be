-- Laws of the numbers in bytes, once over their size. Assumes nothing.
use Rattle.std.specs.Prelude.{◌≡◌, ℕ, zero, suc, ◌+◌, ◌-◌, ◌/◌, ◌<◌, ◌≤◌, List, [], ◌∷◌, length, take, drop, ℤ, refl}
use Rattle.std.proofs.Common.{sym, ap, ap₂, ◌∙◌, arith, length-drop, drop-drop, to_z}
use Rattle.std.proofs.Math.Nat.{div-eq-sub-div, div-eq_of_lt}
use Rattle.std.specs.Int.{w8, w16, w32}
use Rattle.numbers.specs.BigEndian.{number_of, signed_at}
use Rattle.numbers.specs.Laws.BigEndian.{unsigned_at-in}
use Rattle.steps.specs.declared.Size.{Size}
use Rattle.steps.specs.declared.Size.TheVariants.{One, Two, Four}
use Rattle.steps.specs.Width.{width_of, size_of}
use Rattle.steps.specs.Numbers.{first_numbers, numbers_in}

pub size-pos : (z : Size) → 0 < size_of z
size-pos One = omega arith
size-pos Two = omega arith
size-pos Four = omega arith

-- the bytes of a number that stands at i
value-at : (z : Size) (s : List ℕ) (i : ℕ) → i + size_of z ≤ length s → to_z (width_of z) (number_of (take (size_of z) (drop i s))) ≡ signed_at (width_of z) s i
unfolding signed_at
value-at One s i h = ap (to_z w8) (sym (unsigned_at-in 1 s i h))
value-at Two s i h = ap (to_z w16) (sym (unsigned_at-in 2 s i h))
value-at Four s i h = ap (to_z w32) (sym (unsigned_at-in 4 s i h))

count-step : (z : Size) (s : List ℕ) (i : ℕ) → i + size_of z ≤ length s → length (drop i s) / size_of z ≡ suc (length (drop (i + size_of z) s) / size_of z)
count-step z s i h =
    let c : length s - i - size_of z ≡ length s - (i + size_of z) = omega arith in
    let d : (length s - i) / size_of z ≡ (length s - i - size_of z) / size_of z + 1 = div-eq-sub-div (size-pos z) (omega arith) in
    let e : (length s - i) / size_of z ≡ suc ((length s - (i + size_of z)) / size_of z) = d ∙ rw c (omega arith) in
    rw (length-drop i s, length-drop (i + size_of z) s) e

-- one number at i, and those after it
pub numbers-step : (z : Size) (s : List ℕ) (i : ℕ) → i + size_of z ≤ length s → numbers_in z (drop i s) ≡ signed_at (width_of z) s i ∷ numbers_in z (drop (i + size_of z) s)
unfolding numbers_in first_numbers
numbers-step z s i h =
    let e : size_of z + i ≡ i + size_of z = omega arith in
    ap (λ (m : ℕ). first_numbers z m (drop i s)) (count-step z s i h)
    ∙ ap₂ (λ (x : ℤ) (t : List ℕ). x ∷ first_numbers z (length (drop (i + size_of z) s) / size_of z) t) (value-at z s i h) (drop-drop (size_of z) i s)

-- too few bytes for a number
pub numbers-end : (z : Size) (s : List ℕ) (i : ℕ) → length s - i < size_of z → numbers_in z (drop i s) ≡ []
unfolding numbers_in first_numbers
numbers-end z s i h =
    let e : length (drop i s) / size_of z ≡ 0 = rw (length-drop i s) (div-eq_of_lt h) in
    ap (λ (m : ℕ). first_numbers z m (drop i s)) e

-- how many numbers there are
pub length-numbers : (z : Size) (s : List ℕ) → length (numbers_in z s) ≡ length s / size_of z
unfolding numbers_in first_numbers
length-numbers z s = first (length s / size_of z) s
  where
    first : (n : ℕ) (t : List ℕ) → length (first_numbers z n t) ≡ n
    first zero t = refl
    first (suc n) t = ap suc (first n (drop (size_of z) t))

-- The writer's payload is the shortest: no bytes that hold the same values by the same form are fewer, and no others are as few. Once over the
-- form. Assumes nothing.
use Rattle.std.specs.Prelude.{◌≡◌, ℕ, ◌*◌, ◌/◌, ◌%◌, ◌≤◌, List, length, ℤ, FitsSigned, refl}
use Rattle.std.proofs.Common.{ap, ◌∙◌, div-add-mod', arith}
use Rattle.std.proofs.Math.Option.{some}
use Rattle.numbers.specs.BigEndian.{Bytes}
use Rattle.steps.specs.declared.Size.{Size}
use Rattle.steps.specs.declared.Size.TheVariants.{One, Two, Four}
use Rattle.steps.specs.declared.Range.TheVariants.{Ascii}
use Rattle.steps.specs.declared.Form.{Form}
use Rattle.steps.specs.declared.Form.TheVariants.{Plain, Packed, Runs, Names}
use Rattle.steps.specs.Width.{width_of, size_of, upper, lower}
use Rattle.steps.specs.Numbers.{numbers_in, bytes_for}
use Rattle.steps.specs.RunLength.{expand}
use Rattle.steps.specs.Payload.{all_in, read_in, held_in, number_size, numbers_for}
use Rattle.steps.specs.Fits.{Between}
use Rattle.steps.proofs.Laws.Numbers.{length-numbers}
use Rattle.steps.proofs.Laws.Packing.{limits}
use Rattle.steps.proofs.Laws.Fits.{every_map}
use Rattle.steps.proofs.Laws.NumbersBack.{length-bytes_for, numbers_in-fit, bytes_for-numbers_in}
use Rattle.steps.proofs.Laws.PayloadBack.{fits-between, only-some, held_in-read}
use Rattle.steps.proofs.Laws.Fewest.{Fewest, runs_of-fewest, pack_all-fewest}

-- The numbers

-- numbers that are the values themselves
plain-fewest : (ns l : List ℤ) → some ns ≡ some l → Fewest l ns
plain-fewest ns l e = let z : ns ≡ l = cc in rw (← z) (omega arith, λ h. refl)

pub numbers_for-fewest : (f : Form) (s : List ℕ) (l : List ℤ) → read_in f s ≡ some l → Fewest (numbers_for f l) (numbers_in (number_size f) s)
unfolding read_in numbers_for
numbers_for-fewest (Plain z) s l e = plain-fewest (numbers_in z s) l e
numbers_for-fewest (Packed z) s l e =
    let h = limits z in
    let i = every_map (FitsSigned (width_of z)) (Between (upper z) (lower z)) (fits-between z) (numbers_in z s) (numbers_in-fit z s) in
    pack_all-fewest (upper z) (lower z) h.0 h.2 (numbers_in z s) l i e
numbers_for-fewest (Runs r) s l e = runs_of-fewest (numbers_in Four s) l (only-some (all_in r) (expand (numbers_in Four s)) l e).0
numbers_for-fewest Names s l e = plain-fewest (numbers_in One s) l (only-some (all_in Ascii) (some (numbers_in One s)) l e).0

-- The bytes

-- c numbers, which are no more than those in n bytes: they take no more bytes, and if as many, they are as many and no byte is left over
whole-bytes : (z : Size) (c n : ℕ) → c ≤ n / size_of z → (c * size_of z ≤ n) × (c * size_of z ≡ n → (c ≡ n / size_of z) × (n % size_of z ≡ 0))
whole-bytes One c n h = let d = div-add-mod' n 1 in (omega arith, λ e. (omega arith, omega arith))
whole-bytes Two c n h = let d = div-add-mod' n 2 in (omega arith, λ e. (omega arith, omega arith))
whole-bytes Four c n h = let d = div-add-mod' n 4 in (omega arith, λ e. (omega arith, omega arith))

module _ (f : Form) (m : ℕ) (s : List ℕ) (l : List ℤ) (e : held_in f m s ≡ some l) where
  few : Fewest (numbers_for f l) (numbers_in (number_size f) s)
  few = numbers_for-fewest f s l (held_in-read f m s l e)

  count : length (numbers_for f l) ≤ length s / size_of (number_size f)
  count = rw length-numbers at few.0

  -- no bytes that hold the values are fewer than the writer's
  pub payload-fewest : length (bytes_for (number_size f) (numbers_for f l)) ≤ length s
  payload-fewest = rw length-bytes_for (whole-bytes (number_size f) (length (numbers_for f l)) (length s) count).0

  -- and if they are as few, they are the writer's
  pub payload-only : Bytes s → length (bytes_for (number_size f) (numbers_for f l)) ≡ length s → bytes_for (number_size f) (numbers_for f l) ≡ s
  payload-only b h =
      let i = (whole-bytes (number_size f) (length (numbers_for f l)) (length s) count).1 (rw length-bytes_for at h) in
      let k : length (numbers_for f l) ≡ length (numbers_in (number_size f) s) = rw length-numbers i.0 in
      ap (bytes_for (number_size f)) (few.1 k) ∙ bytes_for-numbers_in (number_size f) s b i.1

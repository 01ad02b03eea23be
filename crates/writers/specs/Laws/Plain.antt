-- Laws of payloads of a number for each cell, once over the size and what the cells are. Assumes nothing.
use Rattle.std.specs.Prelude.{◌≡◌, ℕ, suc, ◌-◌, ◌/◌, ◌%◌, ◌^◌, ◌<◌, get_or, Bool, true, false, List, [], ◌∷◌, ◌++◌, map, ℤ, pos, negsuc, nat_lt, refl}
use Rattle.std.proofs.Common.{sym, ap, ap₂, ◌∙◌, arith, le-leb, ltb-true, ltb-false}
use Rattle.std.proofs.Math.Bool.{and-true}
use Rattle.std.specs.Int.Signed.{mag}
use Rattle.std.specs.Int.{w32}
use mir.Val.{to_z, of_z, sel}
use Rattle.numbers.specs.BigEndian.{bytes_of}
use Rattle.steps.specs.declared.Size.{Size}
use Rattle.steps.specs.declared.Size.TheVariants.{One, Two, Four}
use Rattle.steps.specs.declared.Range.TheVariants.{Int32}
use Rattle.steps.specs.declared.Form.TheVariants.{Plain, Names}
use Rattle.steps.specs.Width.{width_of, size_of, lower}
use Rattle.steps.specs.Numbers.{bytes_for}
use Rattle.steps.specs.Payload.{numbers_for, in_range, range_of, all_in, allowed}
use Rattle.columns.specs.Encode.{payload_of}
use Rattle.writers.specs.Laws.Placed.{Parts}
use Rattle.writers.specs.Laws.Numbers.{bytes_for-cons, bytes_for-nil}
use Rattle.steps.proofs.Laws.PayloadBack.{in-limits}
use Rattle.steps.proofs.Laws.Delta.{deltas-plain}

pub plain-payload : (z : Size) (xs : List ℤ) → payload_of (Plain z) false xs ≡ bytes_for z xs
unfolding payload_of numbers_for
plain-payload z xs = ap (bytes_for z) (deltas-plain (pos 0) xs)

pub names-payload : (xs : List ℤ) → payload_of Names false xs ≡ bytes_for One xs
unfolding payload_of numbers_for
names-payload xs = ap (bytes_for One) (deltas-plain (pos 0) xs)

-- a number that its size holds
pub mag-held : (z : Size) (x : ℤ) → in_range (range_of (Plain z)) x ≡ true → mag x < lower z
mag-held One x e = in-limits 127 x e
mag-held Two x e = in-limits 32767 x e
mag-held Four x e = in-limits 2147483647 x e

-- every pattern of 32 bits is a signed number
any-bits : (u : ℕ) (t : Bool) → nat_lt u 2147483648 ≡ t → in_range Int32 (sel t (pos u) (negsuc (4294967296 - suc u))) ≡ true
any-bits u true q = le-leb u 2147483647 (omega (arith, ltb-true u 2147483648 q))
any-bits u false q = rw (le-leb (4294967296 - suc u) 2147483647 (omega (arith, ltb-false u 2147483648 q)))

all-bits : (us : List ℕ) → all_in Int32 (map (to_z w32) us) ≡ true
unfolding all_in
all-bits [] = refl
all-bits (u ∷ us) = rw (any-bits u (nat_lt u 2147483648) refl) (all-bits us)

pub floats-allowed : (us : List ℕ) → allowed (Plain Four) 0 (map (to_z w32) us) ≡ true
floats-allowed us = and-true (all_in Int32 (map (to_z w32) us)) ∙ all-bits us

-- one number more, whose low bytes are those of u
pub bytes_for-more : (z : Size) (x : ℤ) (u : ℕ) (xs ys : List ℤ) → ys ≡ x ∷ xs → bytes_of (size_of z) u ≡ bytes_of (size_of z) (of_z (width_of z) x) → Parts (bytes_for z ys) (bytes_of (size_of z) u) (bytes_for z xs)
bytes_for-more z x u xs ys e q = record { are = ap (bytes_for z) e ∙ bytes_for-cons z x xs ∙ ap (λ (l : List ℕ). l ++ bytes_for z xs) (sym q) }

pub bytes_for-none : (z : Size) (ys : List ℤ) → ys ≡ [] → bytes_for z ys ≡ []
bytes_for-none z ys e = ap (bytes_for z) e ∙ bytes_for-nil z

-- bytes are the numbers of one byte that they are
pub bytes_for-bytes : (s : List ℕ) → ((i : ℕ) → get_or s i 0 < 256) → bytes_for One (map pos s) ≡ s
unfolding bytes_for bytes_of
bytes_for-bytes [] h = refl
bytes_for-bytes (b ∷ s) h =
    let l = h 0 in
    let e : (b / 256 ^ 0) % 256 ≡ b = omega arith in
    ap₂ (λ (n : ℕ) (l : List ℕ). n ∷ l) e (bytes_for-bytes s (λ i. h (suc i)))

-- Recursive index, or packing (paper 01: packed), once over both limits of the width: the upper is p, the lower -q. No lemma stands
-- here: the laws are in Laws/Packing.antt. Assumes nothing.
use Rattle.std.specs.Prelude.{ℕ, suc, ◌/◌, ◌%◌, ◌^◌, Bool, true, false, cond, List, [], ◌∷◌, ◌++◌, replicate, ℤ, pos, negsuc, ◌+ℤ◌, neg_ℤ, ◌==◌, nat_lt}
use Rattle.std.proofs.Math.Option.{Option, none, some, map}
use Rattle.std.specs.Int.Signed.{mag}
use Rattle.steps.specs.declared.Size.{Size}
use Rattle.steps.specs.Width.{upper, lower}

-- whether x is a limit of the width
abbrev pub is_limit : ℕ → ℕ → ℤ → Bool
is_limit p q (pos n) = n == p
is_limit p q (negsuc n) = suc n == q

-- whether z is a signed 32-bit number: `mag` of a negative number is one less than its size, so that -2 ^ 31 is one
abbrev pub in32 : ℤ → Bool
in32 z = nat_lt (mag z) (2 ^ 31)

-- The results of packed numbers: limits are added, and the first number that is no limit is added and ends the result. `sum` is the sum
-- so far, and `begun` says that a result has begun. An unfinished last result is none, and so is a sum outside 32 bits.
unfoldable pub unpack_from : ℕ → ℕ → ℤ → Bool → List ℤ → Option (List ℤ)
unpack_from p q sum begun [] = cond begun none (some [])
unpack_from p q sum begun (x ∷ xs) =
    cond (in32 (sum +ℤ x))
    (cond (is_limit p q x) (unpack_from p q (sum +ℤ x) true xs) (map (λ (l : List ℤ). (sum +ℤ x) ∷ l) (unpack_from p q (pos 0) false xs)))
    none

abbrev pub unpack : Size → List ℤ → Option (List ℤ)
unpack z xs = unpack_from (upper z) (lower z) (pos 0) false xs

-- the writer's form of one number: the limit of its own sign while the rest reaches it, then the rest
unfoldable pub pack_one : ℕ → ℕ → ℤ → List ℤ
pack_one p q (pos n) = replicate (n / p) (pos p) ++ (pos (n % p) ∷ [])
pack_one p q (negsuc n) = replicate (suc n / q) (neg_ℤ (pos q)) ++ (neg_ℤ (pos (suc n % q)) ∷ [])

-- the writer's form of numbers
unfoldable pub pack_all : ℕ → ℕ → List ℤ → List ℤ
pack_all p q [] = []
pack_all p q (x ∷ xs) = pack_one p q x ++ pack_all p q xs

abbrev pub pack : Size → List ℤ → List ℤ
pack z xs = pack_all (upper z) (lower z) xs

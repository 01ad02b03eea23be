-- Delta (paper 01: sums): a result is the result before it, 0 before the first, plus a delta; sums wrap at 32 bits. Where a codec has no
-- delta a result is its value alone, so that one flag says which. No lemma stands here: the laws are in Laws/Delta.antt. Assumes nothing.
use Rattle.std.specs.Prelude.{ℕ, ◌+◌, ◌-◌, ◌*◌, ◌%◌, ◌^◌, Bool, true, false, List, [], ◌∷◌, ℤ, pos}
use Rattle.std.specs.Int.{w32}
use Rattle.std.proofs.Common.{to_z, of_z}

-- a + d and x - a, modulo 2 ^ 32 into the signed range: the sum and the difference of their bits
abbrev pub plus_delta : ℤ → ℤ → ℤ
plus_delta a d = to_z w32 ((of_z w32 a + of_z w32 d) % 2 ^ 32)

abbrev pub minus_delta : ℤ → ℤ → ℤ
minus_delta x a = to_z w32 ((of_z w32 x + (2 ^ 32 - of_z w32 a)) % 2 ^ 32)

-- a result from the one before it and a value: their sum with delta, the value alone without
abbrev pub advance : Bool → ℤ → ℤ → ℤ
advance true a v = plus_delta a v
advance false a v = v

-- the results of values, where a is the result before the first
unfoldable pub results_from : Bool → ℤ → List ℤ → List ℤ
results_from d a [] = []
results_from d a (v ∷ vs) = advance d a v ∷ results_from d (advance d a v) vs

-- the last result, a where there is no value
unfoldable pub last_from : Bool → ℤ → List ℤ → ℤ
last_from d a [] = a
last_from d a (v ∷ vs) = last_from d (advance d a v) vs

-- the results of a column's values: the sums where its codec has delta
abbrev pub sums_if : Bool → List ℤ → List ℤ
sums_if d vs = results_from d (pos 0) vs

-- a + k * v, modulo 2 ^ 32 into the signed range
abbrev pub plus_times : ℤ → ℤ → ℕ → ℤ
plus_times a v k = to_z w32 ((of_z w32 a + k * of_z w32 v) % 2 ^ 32)

-- the result after k equal values v, k at least 1, where a is the result before them
abbrev pub after_run : Bool → ℤ → ℤ → ℕ → ℤ
after_run true a v k = plus_times a v k
after_run false a v k = v

-- what a payload holds for the result x after the result a: their difference with delta, x alone without
abbrev pub delta_if : Bool → ℤ → ℤ → ℤ
delta_if true a x = minus_delta x a
delta_if false a x = x

-- what it holds for the results xs, where a is the result before the first
unfoldable pub deltas_from : Bool → ℤ → List ℤ → List ℤ
deltas_from d a [] = []
deltas_from d a (x ∷ xs) = delta_if d a x ∷ deltas_from d x xs

-- what it holds for the results of a column: the deltas where its codec has delta
abbrev pub deltas_if : Bool → List ℤ → List ℤ
deltas_if d xs = deltas_from d (pos 0) xs

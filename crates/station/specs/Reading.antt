-- What is read and decoded lies within its buffer. No lemma stands here: the laws are in Laws/Reading.antt. Assumes nothing.
use Rattle.std.specs.Prelude.{Result, Ok, Err, ℕ, ◌≤◌, ℤ, pos}

-- the count of what was read or decoded, if it was, is no more than a buffer has room for
abbrev pub Within : {E : Type 0} → Result ℕ E → ℕ → Type 0
Within (Ok n) room = n ≤ room
Within (Err e) room = Unit {0}

-- the same of a decoder that tells the divisor too
abbrev pub FixedWithin : {E : Type 0} → Result (ℕ × ℤ) E → ℕ → Type 0
FixedWithin (Ok (n, d)) room = n ≤ room
FixedWithin (Err e) room = Unit {0}

-- an answer about integers, with the divisor 1
abbrev pub whole_of : {E : Type 0} → Result ℕ E → Result (ℕ × ℤ) E
whole_of (Ok n) = Ok (n, pos 1)
whole_of (Err e) = Err e

-- What the decoder of fixed point answers, and the elements of a lent buffer by the cells of a column; `Buffer` of columns says the rest of
-- what a decoder answers and leaves. No lemma stands here: the laws are in Laws/Calls.antt. Assumes nothing.
use Rattle.std.specs.Prelude.{Result, Ok, Err, List, ℕ, ◌%◌, length, ℤ}
use Rattle.std.specs.Int.{w32}
use Rattle.std.proofs.Common.{to_z, of_z}
use Rattle.refusal.specs.Outcome.{answered}
use Rattle.columns.specs.declared.Kind.{Kind}
use Rattle.columns.specs.Decode.{Decoding, refused, column}
use Rattle.columns.specs.Buffer.{decoded_buffer}

-- an answer with the divisor m
abbrev pub with_divisor : ℕ → Result ℕ ℕ → Result (ℕ × ℤ) ℕ
with_divisor m (Ok n) = Ok (n, to_z w32 m)
with_divisor m (Err r) = Err r

-- the answer of the decoder of fixed point, which tells the divisor too
abbrev pub fixed_answer : Decoding → ℕ → Result (ℕ × ℤ) ℕ
fixed_answer (refused r) room = Err r
fixed_answer (column k m cells) room = with_divisor m (answered (length cells) room)

-- a cell as an element of a buffer of numbers, and of bytes
abbrev pub as_number : ℤ → ℤ
as_number x = x

abbrev pub as_byte : ℤ → ℕ
as_byte x = of_z w32 x % 256

-- a buffer of numbers afterwards, and one of bytes
abbrev pub number_buffer : Decoding → List ℤ → List ℤ
number_buffer x old = decoded_buffer (λ (k : Kind) (m : ℕ). as_number) x old

abbrev pub byte_buffer : Decoding → List ℕ → List ℕ
byte_buffer x old = decoded_buffer (λ (k : Kind) (m : ℕ). as_byte) x old

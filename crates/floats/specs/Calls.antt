-- A real column as floats: their bits, and when they are exact (27). What the call answers and leaves in the lent buffer is then
-- `decoded_answer` and `decoded_buffer` of columns. No lemma stands here: the laws are in Laws/. Assumes nothing.
use Rattle.std.specs.Prelude.{cond, not, ◌&&◌, ℕ, ℤ, pos, Float}
use Rattle.std.specs.Float.{binary32}
use Rattle.std.specs.Float.Ieee.{of_int, div, to_bits}
use Rattle.std.specs.Int.{w32}
use Rattle.std.proofs.Common.{of_z}
use Rattle.refusal.specs.Table.{not_exact}
use Rattle.columns.specs.declared.Kind.{Kind}
use Rattle.columns.specs.Table.{divides}
use Rattle.columns.specs.Decode.{Decoding, refused, column}
use Rattle.payloads.specs.Exact.{exact, all_exact}

-- one division in single precision
abbrev pub quotient : ℤ → ℤ → Float
quotient n d = div binary32 (of_int binary32 n) (of_int binary32 d)

-- the 32 bits that stand in a column of codec 1
abbrev pub kept : ℤ → ℕ
kept x = of_z w32 x

-- the bits of a cell of a column of the kind k with the parameter m
abbrev pub float_bits : Kind → ℕ → ℤ → ℕ
float_bits k m x = cond (divides k) (to_bits binary32 (quotient x (pos m))) (kept x)

-- 27 where a cell or the divisor of a fixed point column is not exact in single precision
abbrev pub exactly : Decoding → Decoding
exactly (refused r) = refused r
exactly (column k m l) = cond (divides k && not (all_exact l && exact (pos m))) (refused not_exact) (column k m l)

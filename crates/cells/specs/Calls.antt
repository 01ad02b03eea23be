-- One cell of a column, with its refusals in their order: the column's own, 15 for strings, 28, 27. No lemma stands here: the laws are
-- in Laws/. Assumes nothing.
use Rattle.std.specs.Prelude.{cond, ◌&&◌, ℕ, length, get_or, ℤ, pos, ltb}
use Rattle.std.specs.Float.{binary32}
use Rattle.std.specs.Float.Ieee.{of_bits}
use Rattle.refusal.specs.Table.{codec_unknown, not_exact, no_such_entry}
use Rattle.columns.specs.declared.Kind.{Kind}
use Rattle.columns.specs.declared.Kind.TheVariants as kind
use Rattle.columns.specs.Table.{is_strings}
use Rattle.columns.specs.Decode.{Decoding, refused, column}
use Rattle.payloads.specs.Exact.{exact}
use Rattle.decoding.specs.Calls.{as_byte}
use Rattle.floats.specs.Calls.{quotient, kept}
use Rattle.cells.specs.declared.Cell.{Cell}
use Rattle.cells.specs.declared.Cell.TheVariants.{Int, Char, Float, Refused}

-- the quotient of a cell by the divisor m; 27 where one of them is not exact
abbrev pub quotient_cell : ℕ → ℤ → Cell
quotient_cell m x = cond (exact x && exact (pos m)) (Float (quotient x (pos m))) (Refused not_exact)

-- a number x of a column of the kind k with the parameter m, as a cell
abbrev pub value_of : Kind → ℕ → ℤ → Cell
value_of kind.Float32 m x = Float (of_bits binary32 (kept x))
value_of kind.FixedPoint m x = quotient_cell m x
value_of kind.Int8 m x = Int x
value_of kind.Int16 m x = Int x
value_of kind.Int32 m x = Int x
value_of kind.Strings m x = Refused codec_unknown
value_of kind.Chars m x = Char (as_byte x)

-- the cell at i: strings have no cells, but bytes
abbrev pub cell_of : Decoding → ℕ → Cell
cell_of (refused r) i = Refused r
cell_of (column k m l) i =
    cond (is_strings k) (Refused codec_unknown) (cond (ltb i (length l)) (value_of k m (get_or l i (pos 0))) (Refused no_such_entry))

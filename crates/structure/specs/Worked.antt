-- The worked lines of paper 01 that are marked P, in its order: what each line says, and the paper's table. That every line holds is `worked` in
-- Laws/Worked.antt. No lemma stands here. Assumes nothing.
use Rattle.std.specs.Prelude.{◌≡◌, Err, true, List, [], ◌∷◌, ◌++◌, ℕ, length, ℤ, pos, neg_ℤ}
use Rattle.refusal.specs.Table.{cut_short, unsigned_too_large, field_missing, number_not_allowed}
use Rattle.messagepack.specs.Limits.{nesting_limit}
use Rattle.messagepack.specs.Walk.{value_at}
use Rattle.steps.specs.declared.Size.{Size}
use Rattle.steps.specs.declared.Size.TheVariants.{One, Two, Four}
use Rattle.steps.specs.Numbers.{bytes_for}
use Rattle.steps.specs.Delta.{sums_if}
use Rattle.steps.specs.Packing.{pack}
use Rattle.columns.specs.declared.Kind.TheVariants as kind
use Rattle.columns.specs.declared.Wanted.TheVariants.{Any}
use Rattle.columns.specs.Header.{header_bytes}
use Rattle.columns.specs.Decode.{Decoding, column, decode}
use Rattle.structure.specs.Accepted.{verdict_of}

-- A line of the table. A codec, the size of its payload's numbers, the numbers, and the cells that they give or the number that refuses them. Or
-- deltas and their sums. Or a size, numbers, and what they pack to. Or bytes, as a value or as a whole file, and the number that refuses them.
pub data Line : Type 0 where
  reads : ℕ → Size → List ℤ → List ℤ → Line
  refuses : ℕ → Size → List ℤ → ℕ → Line
  sums : List ℤ → List ℤ → Line
  packs : Size → List ℤ → List ℤ → Line
  value : List ℕ → ℕ → Line
  file : List ℕ → ℕ → Line

-- the table, in the paper's order
abbrev pub lines : List Line
lines =
    reads 8 Four (pos 1 ∷ pos 10 ∷ pos 2 ∷ pos 1 ∷ pos 1 ∷ pos 4 ∷ [])
    (pos 1 ∷ pos 2 ∷ pos 3 ∷ pos 4 ∷ pos 5 ∷ pos 6 ∷ pos 7 ∷ pos 8 ∷ pos 9 ∷ pos 10 ∷ pos 12 ∷ pos 13 ∷ pos 14 ∷ pos 15 ∷ pos 16 ∷ [])
    ∷ reads 8 Four (pos 1 ∷ pos 10 ∷ neg_ℤ (pos 10) ∷ pos 1 ∷ pos 1 ∷ pos 4 ∷ [])
    (pos 1 ∷ pos 2 ∷ pos 3 ∷ pos 4 ∷ pos 5 ∷ pos 6 ∷ pos 7 ∷ pos 8 ∷ pos 9 ∷ pos 10 ∷ pos 0 ∷ pos 1 ∷ pos 2 ∷ pos 3 ∷ pos 4 ∷ [])
    ∷ reads 8 Four (pos 1 ∷ pos 7 ∷ pos 2 ∷ pos 1 ∷ []) (pos 1 ∷ pos 2 ∷ pos 3 ∷ pos 4 ∷ pos 5 ∷ pos 6 ∷ pos 7 ∷ pos 9 ∷ [])
    ∷ sums (pos 2147483647 ∷ pos 1 ∷ []) (pos 2147483647 ∷ neg_ℤ (pos 2147483648) ∷ [])
    ∷ reads 14 Two (pos 32767 ∷ pos 100 ∷ pos 2001 ∷ pos 1053 ∷ []) (pos 32867 ∷ pos 2001 ∷ pos 1053 ∷ [])
    ∷ packs Two (pos 32767 ∷ []) (pos 32767 ∷ pos 0 ∷ [])
    ∷ packs Two (neg_ℤ (pos 32768) ∷ []) (neg_ℤ (pos 32768) ∷ pos 0 ∷ [])
    ∷ packs One (pos 127 ∷ []) (pos 127 ∷ pos 0 ∷ [])
    ∷ refuses 14 Two (pos 32767 ∷ []) number_not_allowed
    ∷ value (0xce ∷ 0x80 ∷ 0x00 ∷ 0x00 ∷ 0x00 ∷ []) unsigned_too_large
    ∷ file [] cut_short
    ∷ file (0x80 ∷ []) field_missing
    ∷ []

-- a column of n results by the codec c, whose payload is numbers of a size
abbrev pub column_bytes : ℕ → ℕ → Size → List ℤ → List ℕ
column_bytes c n z numbers = header_bytes c n 0 ++ bytes_for z numbers

-- what a line says; the codecs of the lines are all of int32 columns
abbrev pub Says : Line → Type 0
Says (reads c z numbers cells) = decode Any (column_bytes c (length cells) z numbers) ≡ column kind.Int32 0 cells
Says (refuses c z numbers r) = decode Any (column_bytes c (length numbers) z numbers) ≡ Decoding.refused r
Says (sums deltas cells) = sums_if true deltas ≡ cells
Says (packs z numbers packed) = pack z numbers ≡ packed
Says (value v n) = value_at v nesting_limit 0 ≡ Err n
Says (file f n) = verdict_of f ≡ n

-- what all lines of a table say
abbrev pub SayAll : List Line → Type 0
SayAll [] = Unit {0}
SayAll (l ∷ ls) = Says l × SayAll ls

-- Where the code finds a result of a payload, and a cell or the number of a refusal as one cell: what the contracts inside this crate cite.
-- No lemma stands here. Assumes nothing.
use Rattle.std.specs.Prelude.{Result, Ok, Err, ◌≡◌, Bool, true, false, not, List, ℕ, ◌<◌, length, get_or, ℤ, pos}
use Rattle.std.proofs.Math.Option.{some}
use Rattle.steps.specs.declared.Form.{Form}
use Rattle.steps.specs.declared.Form.TheVariants.{Plain, Packed, Runs, Names}
use Rattle.steps.specs.Delta.{sums_if}
use Rattle.steps.specs.Payload.{read_in}
use Rattle.cells.specs.declared.Cell.{Cell}
use Rattle.cells.specs.declared.Cell.TheVariants.{Refused}

-- whether a result's place is known or is walked to: plain numbers have no delta, and names are no numbers
abbrev pub is_direct : Form → Bool → Bool
is_direct (Plain z) d = not d
is_direct (Packed z) d = true
is_direct (Runs r) d = true
is_direct Names d = false

-- a payload has a result at i
abbrev pub HasResultAt : Form → List ℕ → ℕ → Type 0
HasResultAt f s i = (l : List ℤ) × (read_in f s ≡ some l) × (i < length l)

-- x is the result at i of a payload that has one there
abbrev pub ResultAt : Form → Bool → List ℕ → ℕ → ℤ → Type 0
ResultAt f d s i x = (l : List ℤ) → read_in f s ≡ some l → i < length l → x ≡ get_or (sums_if d l) i (pos 0)

-- a cell, or the number of a refusal, as a cell
abbrev pub as_cell : Result Cell ℕ → Cell
as_cell (Ok c) = c
as_cell (Err r) = Refused r

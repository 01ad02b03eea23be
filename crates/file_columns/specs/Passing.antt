-- What passing some cells of a column does: what the contracts inside this crate cite. No lemma stands here: the laws are in
-- Laws/Passing.antt. Assumes nothing.
use Rattle.std.specs.Prelude.{◌≡◌, ℕ, ◌+◌, ◌-◌, ◌*◌, ◌%◌, ◌^◌, ◌≤◌, Bool, true, false, cond, ◌&&◌, List, length, replicate, ℤ, pos, ◌==◌}
use Rattle.std.specs.Prelude.{Option as Answer, Some, None}
use Rattle.std.proofs.Math.Option.{Option, none, some}
use Rattle.std.specs.Int.{w32}
use Rattle.std.proofs.Common.{of_z}
use Rattle.numbers.specs.Ranges.{all_pass, all_below}
use Rattle.steps.specs.Delta.{results_from, last_from, sums_if}
use Rattle.columns.specs.Table.{length_limit}
use Rattle.file_columns.specs.declared.whole.Sums.{Sums}
use Rattle.file_columns.specs.declared.whole.Tally.{Tally}
use Rattle.file_columns.specs.Cells.{total, sums_over}

-- whether values are held, there are c of them, and all their results pass a test
abbrev pub held_pass : (ℤ → Bool) → ℕ → Bool → Option (List ℤ) → Bool
held_pass test c d none = false
held_pass test c d (some l) = length l == c && all_pass test (sums_if d l)

-- all of the results ys pass a test, and z is the last; or one does not
abbrev pub Reaches : (ℤ → Bool) → List ℤ → ℤ → Answer ℤ → Type 0
Reaches test ys z (Some x) = (all_pass test ys ≡ true) × (x ≡ z)
Reaches test ys z None = all_pass test ys ≡ false

-- how far b is ahead of a, upwards and modulo 2 ^ 32
abbrev pub ahead_of : ℤ → ℤ → ℕ
ahead_of a b = (of_z w32 b + (2 ^ 32 - of_z w32 a)) % 2 ^ 32

-- the sums of two tables over the results of c values that are held; none where there are not so many
abbrev pub held_sums : ℕ → List ℕ → List ℕ → ℕ → Bool → Option (List ℤ) → Answer Sums
held_sums n atoms bonds c d none = None
held_sums n atoms bonds c d (some l) = cond (length l == c) (sums_over n atoms bonds (sums_if d l)) None

-- the tally before the first of c cells
abbrev pub to_come : ℕ → Tally
to_come c = record { left = c; atoms = 0; bonds = 0; last = pos 0 }

-- the sums of a tally to which no cell is to come; none where one is
abbrev pub sums_in : Tally → Answer Sums
sums_in t = cond (t.left == 0) (Some (record { atoms = t.atoms; bonds = t.bonds })) None

-- two tables have n entries each
abbrev pub Hold : ℕ → List ℕ → List ℕ → Type 0
Hold n atoms bonds = (n ≤ length atoms) × (n ≤ length bonds)

-- a tally's sums have room for the cells to come: those of as many 32-bit numbers as a column has cells have 64 bits
abbrev pub Sound : Tally → Type 0
Sound t = (t.atoms + t.left * 4294967295 ≤ length_limit * 4294967295) × (t.bonds + t.left * 4294967295 ≤ length_limit * 4294967295)

-- the tally t with the results ys more, of which z is the last; or one is no index of the first n entries, or they are too many
abbrev pub Adds : ℕ → List ℕ → List ℕ → Tally → List ℤ → ℤ → Answer Tally → Type 0
Adds n atoms bonds t ys z (Some u) =
    (all_below n ys ≡ true) × (t.left ≡ u.left + length ys) × (u.atoms ≡ t.atoms + total atoms ys) × (u.bonds ≡ t.bonds + total bonds ys)
    × Sound u × (u.last ≡ z)
Adds n atoms bonds t ys z None = length ys ≤ t.left → all_below n ys ≡ false

-- the tally t with k equal values v more
abbrev pub AddsRun : ℕ → List ℕ → List ℕ → Tally → Bool → ℤ → ℕ → Answer Tally → Type 0
AddsRun n atoms bonds t d v k r = Adds n atoms bonds t (results_from d t.last (replicate k v)) (last_from d t.last (replicate k v)) r

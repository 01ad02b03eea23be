-- One test of the cell decides for the whole run, and its entries are added as often as it stands there (`all_pass-same`, `total-same`).
use Rattle.std.proofs.Common.{◌≡◌, ℕ, ◌+◌, ◌*◌, ◌≤◌, false, List, get_or, replicate, ℤ, pos, nat_abs, sym, ap, ◌∙◌, arith, to_z-of_z, w32, of_z, le-ltb, lt-ltb}
use lib.ListN.{length-replicate}
use lib.Signed.{lt_z}
use Rattle.numbers.specs.Ranges.{below, all_below}
use Rattle.numbers.specs.Laws.Ranges.{all_pass-same, below-negative, below-index, index-bits}
use Rattle.file_columns.specs.Cells.{total}
use Rattle.file_columns.specs.Laws.Cells.{total-same}
use Rattle.file_columns.proofs.whole.add_cells.Goals as goal
use Rattle.file_columns.proofs.whole.add_cells.Goals.{After-cast_unsigned-i, Start, then-types-i-via-then-types-i, then-types-i-via-else-types-i+then-tally-count}

-- the cell decides
decides : (c : Start) → all_below c.args.types (replicate c.args.count c.args.cell) ≡ below c.args.types c.args.cell
decides c = all_pass-same (below c.args.types) c.args.count c.args.cell c.requires.0

-- it is not negative
positive : (c : After-cast_unsigned-i) → lt_z c.args.cell (pos 0) ≡ false
positive c = ap (λ (z : ℤ). lt_z z (pos 0)) (sym (to_z-of_z {w = w32} c.ranges.cell)) ∙ c.if-cell-lt0.false

-- its index
index : (c : After-cast_unsigned-i) → c.cast_unsigned-i.result ≡ nat_abs c.args.cell
index c = c.cast_unsigned-i.ensures ∙ ap (of_z w32) (to_z-of_z {w = w32} c.ranges.cell) ∙ index-bits c.args.cell (positive c)

pub returns-then-cell-lt0 : goal.returns-then-cell-lt0
returns-then-cell-lt0 c h =
    let a = c in
    decides (goal.at.returns-then-cell-lt0 c).Start ∙ below-negative a.args.types a.args.cell (ap (λ (z : ℤ). lt_z z (pos 0)) (sym (to_z-of_z {w = w32} a.ranges.cell)) ∙ c.if-cell-lt0.true)

pub returns-then-types-i : goal.returns-then-types-i
returns-then-types-i c h =
    let a = c in
    let i = index (goal.at.returns-then-types-i c).After-cast_unsigned-i in
    let l = length-replicate a.args.count a.args.cell in
    let past : a.args.types ≤ c.cast_unsigned-i.result = elim c.then-types-i.branch [ then-types-i-via-then-types-i w ↦ omega arith | then-types-i-via-else-types-i+then-tally-count w ↦ omega arith ] in
    decides (goal.at.returns-then-types-i c).Start ∙ below-index a.args.types a.args.cell (positive (goal.at.returns-then-types-i c).After-cast_unsigned-i) ∙ le-ltb (nat_abs a.args.cell) a.args.types (omega arith)

pub returns : goal.returns
returns c =
    let b = c in
    let a = c in
    let i = index (goal.at.returns c).After-cast_unsigned-i in
    let l = length-replicate a.args.count a.args.cell in
    let entries : (table : List ℕ) → get_or table b.cast_unsigned-i.result 0 * a.args.count ≡ total table (replicate a.args.count a.args.cell) =
    λ table. ap (λ (j : ℕ). get_or table j 0 * a.args.count) i ∙ sym (total-same table a.args.count a.args.cell) in (
      decides (goal.at.returns c).Start ∙ below-index a.args.types a.args.cell (positive (goal.at.returns c).After-cast_unsigned-i) ∙ lt-ltb (nat_abs a.args.cell) a.args.types (omega arith),
      omega arith,
      c.add_entry.ensures.0 ∙ ap (λ (x : ℕ). a.args.tally.atoms + x) (entries a.args.atoms.now),
      c.add_entry-2.ensures.0 ∙ ap (λ (x : ℕ). a.args.tally.bonds + x) (entries a.args.bonds.now),
      (c.add_entry.ensures.1, c.add_entry-2.ensures.1),
      to_z-of_z {w = w32} a.ranges.cell,
    )

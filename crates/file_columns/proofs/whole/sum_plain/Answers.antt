-- The answer of the tally with the numbers from here on is the answer of all (`numbers_on`, `numbers-off`).
use Rattle.std.proofs.Common.{replicate, sym, ◌∙◌, subst, arith, to_z-of_z, w32}
use Rattle.numbers.specs.BigEndian.{signed_at}
use Rattle.steps.specs.Width.{width_of}
use Rattle.file_columns.specs.Passing.{Adds}
use Rattle.file_columns.specs.Laws.Passing.{numbers-all, numbers_on, numbers-off, numbers-none}
use Rattle.file_columns.proofs.whole.sum_plain.Goals as goal
use Rattle.file_columns.proofs.whole.sum_plain.Goals.{After-add_cells}

-- what is added of the number that was read
added : (c : After-add_cells)
    → Adds c.args.types c.args.atoms.now c.args.bonds.now c.loop-at.tally (replicate 1 (signed_at (width_of c.args.size) c.args.payload.now c.loop-at.at)) (signed_at (width_of c.args.size) c.args.payload.now c.loop-at.at) c.add_cells.result
added c = rw (to_z-of_z {w = w32} (record { sfits = c.number_at-number.type_inv }), c.number_at-number.ensures) at c.add_cells.ensures

pub loop-at-init : goal.loop-at-init
loop-at-init c =
    let a = c in
    let l = a.requires.1 in
    rw c.to_come-tally.ensures (omega arith, (omega arith, omega arith), numbers-all a.args.types a.args.atoms.now a.args.bonds.now a.args.n a.args.size a.args.payload.now)

pub returns-in_err-tally : goal.returns-in_err-tally
returns-in_err-tally c =
    let a = c.args in
    let p = c.loop-at in
    let h = subst (Adds a.types a.atoms.now a.bonds.now p.tally _ _) c.in_err-tally.was (added (goal.at.returns-in_err-tally c).After-add_cells) in
    rw c.from_residual.ensures (sym (p.invariant.2 ∙ numbers-off a.types a.atoms.now a.bonds.now a.size a.payload.now p.at p.tally (omega (arith, c.bytes-k.ensures)) h))

pub loop-at-preserved : goal.loop-at-preserved
loop-at-preserved c =
    let a = c.args in
    let p = c.loop-at in
    let h = subst (Adds a.types a.atoms.now a.bonds.now p.tally _ _) c.in_ok-tally.was (added (goal.at.loop-at-preserved c).After-add_cells) in
    let e = c.bytes-k.ensures in
    (omega arith, h.4, rw e (p.invariant.2 ∙ numbers_on a.types a.atoms.now a.bonds.now a.size a.payload.now p.at p.tally (omega arith) c.in_ok-tally.tally h))

pub returns : goal.returns
returns c =
    let a = c.args in
    let p = c.loop-at in
    c.sums_in.ensures ∙ sym (p.invariant.2 ∙ numbers-none a.types a.atoms.now a.bonds.now a.size a.payload.now p.at p.tally (omega (arith, c.bytes-k.ensures)))

-- The sums that are left decide, and bring the tally to the same end (`sums_on`, `sums-off`).
use Rattle.std.proofs.Common.{◌≡◌, ◌+◌, ◌-◌, true, replicate, ℤ, sym, ap, ◌∙◌, subst, arith, to_z-of_z, w32, to_z, of_z}
use Rattle.steps.specs.Delta.{plus_delta, results_from, last_from}
use Rattle.steps.proofs.Laws.Delta.{last-first}
use Rattle.file_columns.specs.Passing.{Adds}
use Rattle.file_columns.specs.Laws.Passing.{sums_on, sums-off, sums-end}
use Rattle.file_columns.proofs.whole.add_sums.Goals as goal
use Rattle.file_columns.proofs.whole.add_sums.Goals.{After-add_delta-x}

-- the next sum
next : (c : After-add_delta-x)
    → to_z w32 (of_z w32 c.add_delta-x.result) ≡ plus_delta c.loop.t.last (to_z w32 (of_z w32 c.args.value))
next c =
    to_z-of_z {w = w32} (record { sfits = c.add_delta-x.type_inv }) ∙ c.add_delta-x.ensures
    ∙ ap (λ (x : ℤ). plus_delta x (to_z w32 (of_z w32 c.args.value))) (to_z-of_z {w = w32} {z = c.loop.t.last} (record { sfits = omega arith }))

pub returns-in_err-t : goal.returns-in_err-t
returns-in_err-t c =
    let a = c in
    let p = c.loop in
    let b = c in
    let v = to_z-of_z {w = w32} a.ranges.value in
    let h = subst (Adds a.args.types a.args.atoms.now a.args.bonds.now p.t (replicate 1 (to_z w32 (of_z w32 b.add_delta-x.result))) (to_z w32 (of_z w32 b.add_delta-x.result))) c.in_err-t.was c.add_cells.ensures in
    rw c.from_residual.ensures (rw v at (sums-off a.args.types a.args.atoms.now a.args.bonds.now a.args.tally (results_from true a.args.tally.last (replicate a.args.count (to_z w32 (of_z w32 a.args.value)))) p.t (to_z w32 (of_z w32 a.args.value)) (a.args.count - p.counter) p.invariant.1 (omega arith) (to_z w32 (of_z w32 b.add_delta-x.result)) (next (goal.at.returns-in_err-t c).After-add_delta-x) h))

pub loop-preserved : goal.loop-preserved
loop-preserved c =
    let a = c in
    let p = c.loop in
    let b = c in
    let u = c.in_ok-t.t in
    let k : a.args.count - (p.counter + 1) ≡ a.args.count - p.counter - 1 = omega arith in
    let h = subst (Adds a.args.types a.args.atoms.now a.args.bonds.now p.t (replicate 1 (to_z w32 (of_z w32 b.add_delta-x.result))) (to_z w32 (of_z w32 b.add_delta-x.result))) c.in_ok-t.was c.add_cells.ensures in
    rw k (
      h.4,
      sums_on a.args.types a.args.atoms.now a.args.bonds.now a.args.tally (results_from true a.args.tally.last (replicate a.args.count (to_z w32 (of_z w32 a.args.value)))) p.t (to_z w32 (of_z w32 a.args.value)) (a.args.count - p.counter) p.invariant.1 (omega arith) (to_z w32 (of_z w32 b.add_delta-x.result)) (next (goal.at.loop-preserved c).After-add_delta-x) u h,
      p.invariant.2 ∙ last-first true p.t.last (to_z w32 (of_z w32 a.args.value)) (a.args.count - p.counter) (omega arith) ∙ ap (λ (x : ℤ). last_from true x (replicate ((a.args.count - p.counter) - 1) (to_z w32 (of_z w32 a.args.value)))) (sym (h.5 ∙ next (goal.at.loop-preserved c).After-add_delta-x)),
    )

pub returns : goal.returns
returns c =
    let a = c in
    let p = c.loop in
    let v = to_z-of_z {w = w32} a.ranges.value in
    let z : (a.args.count - p.counter) ≡ 0 = omega arith in
    let e = sums-end a.args.types a.args.atoms.now a.args.bonds.now a.args.tally (results_from true a.args.tally.last (replicate a.args.count (to_z w32 (of_z w32 a.args.value)))) p.t (to_z w32 (of_z w32 a.args.value)) (a.args.count - p.counter) p.invariant.1 z p.invariant.0 (last_from true a.args.tally.last (replicate a.args.count (to_z w32 (of_z w32 a.args.value)))) p.invariant.2 in
    rw v at e

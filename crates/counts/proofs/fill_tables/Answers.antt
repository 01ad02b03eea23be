-- The types before are fine and stand in the tables; the one at hand is judged.
use mathlib.Core.Path.{◌∙◌}
use native.Mathlib.Omega.{arith}
use lib.ListN.{length-set}
use Rattle.std.proofs.lemmas.Result.{err_from_is_err_and}
use Rattle.refusal.specs.Table.{refusal_number}
use Rattle.file_columns.specs.Laws.Exits.{some_number}
use Rattle.counts.proofs.Laws.Tables.{judged-next, judged-refused, judged-more, judged-end, tables-said}
use Rattle.counts.proofs.fill_tables.Goals as goal

pub returns-in_err-group : goal.returns-in_err-group
returns-in_err-group c =
    let v = c.loop-i.invariant in
    let lt = c.loop-i-test.true in
    let whole = tables-said
    (λ l ts e a k.
    let j = v.4 l ts e a k in
    let m = judged-next j lt in
    let g = c.in_err-group.ensures l m.x m.q m.first in
    judged-refused j lt (refusal_number c.in_err-group.field-0.0) (some_number c.in_err-group.field-0.0) g.number (omega (arith, lt, v.1.0)) (omega (arith, lt, v.1.1))) in
    let e = err_from_is_err_and c.from_residual.result c.from_residual.ensures.1 in
    record { number = rw (e.1, e.2) whole.0; atoms = whole.1.0; bonds = whole.1.1 }

pub loop-i-preserved : goal.loop-i-preserved
loop-i-preserved c =
    let v = c.loop-i.invariant in
    let lt = c.loop-i-test.true in
    let i = c.loop-i.i in
    let g = c.in_ok-group.group in
    let la = length-set c.loop-i.atoms i g.atoms in
    let lb = length-set c.loop-i.bonds i g.bonds in (
      omega (arith, lt),
      (rw la v.1.0, rw lb v.1.1),
      la ∙ v.2,
      lb ∙ v.3,
      λ l ts e a k.
          let j = v.4 l ts e a k in
          let m = judged-next j lt in
          let s = c.in_ok-group.ensures l m.x m.q m.first in
          judged-more j lt g s.number s.group s.group.ends (omega (arith, lt, v.1.0)) (omega (arith, lt, v.1.1)),
    )

pub returns : goal.returns
returns c =
    let whole = tables-said (λ l ts e a k. judged-end (c.loop-i.invariant.4 l ts e a k) c.loop-i-test.false) in
    record { number = whole.0; atoms = whole.1.0; bonds = whole.1.1 }

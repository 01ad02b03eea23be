-- The first i elements of each buffer are those of the first i fields, and from i on nothing has changed.
use mathlib.Core.Path.{ap, ◌∙◌}
use Prim.Native.Nat.{◌<◌}
use native.Mathlib.Omega.{arith}
use lib.ListN.{length-set}
use Rattle.values.specs.declared.Part.{Part}
use Rattle.payloads.specs.Laws.Writing.{laid_next, laid-all}
use Rattle.fields.specs.Table.{field_count}
use Rattle.opening.specs.Opening.{starts_of, lengths_of}
use Rattle.opening.specs.Laws.Opening.{starts-count, lengths-count, start-noted, length-noted}
use Rattle.opening.proofs.put_parts.Goals as goal

pub loop-i-preserved : goal.loop-i-preserved
loop-i-preserved c =
    let a = c.args in
    let l = c.loop-i in
    let t : l.i < field_count = c.loop-i-test.true in
    let n = c.requires in
    let e = c.part_at-part.ensures in (
      omega arith,
      length-set l.starts l.i _ ∙ l.invariant.1,
      length-set l.lengths l.i _ ∙ l.invariant.2,
      laid_next (starts_of a.file.now) a.starts.now l.starts l.i _ 0 (omega (arith, starts-count a.file.now)) (omega (arith, starts-count a.file.now, n.1.0)) (ap (λ (p : Part). p.at) e ∙ start-noted n.0 l.i t) l.invariant.3,
      laid_next (lengths_of a.file.now) a.lengths.now l.lengths l.i _ 0 (omega (arith, lengths-count a.file.now)) (omega (arith, lengths-count a.file.now, n.1.1)) (ap (λ (p : Part). p.count) e ∙ length-noted n.0 l.i t) l.invariant.4,
    )

pub returns : goal.returns
returns c =
    let a = c.args in
    let l = c.loop-i in
    let t = c.loop-i-test.false in
    record { starts = laid-all (starts_of a.file.now) a.starts.now l.starts l.i (omega (arith, starts-count a.file.now, l.invariant.0)) l.invariant.3; lengths = laid-all (lengths_of a.file.now) a.lengths.now l.lengths l.i (omega (arith, lengths-count a.file.now, l.invariant.0)) l.invariant.4 }

-- A number below the count is that of a value.
use mathlib.Core.Path.{sym, subst}
use Rattle.std.specs.Prelude.{None}
use Prim.Native.Nat.{◌<◌}
use native.Mathlib.Omega.{arith}
use Rattle.messagepack.specs.Document.{count}
use Rattle.values.specs.Parts.{items_of}
use Rattle.transforms.specs.Steps.{FoundSays, absent}
use Rattle.transforms.specs.Laws.Matrix.{nth_past}
use Rattle.transforms.proofs.item.Goals as goal

pub returns-then-part-n : goal.returns-then-part-n
returns-then-part-n c =
    λ x e a.
    let i = c.items_at-part.ensures.says x e a in
    subst (FoundSays c.args.file.now None) (sym (nth_past c.args.number (items_of x) (omega (arith, i.counts, c.if-part-n.true)))) absent

pub returns : goal.returns
returns c =
    λ x e a.
    let i = c.items_at-part.ensures.says x e a in
    let l : c.args.number < count (items_of x) = omega (arith, i.counts, c.if-part-n.false) in
    c.past.ensures (items_of x) i.end i.all l

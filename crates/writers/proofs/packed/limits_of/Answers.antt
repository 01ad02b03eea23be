-- A value between the limits is one number, and has no limit.
use Rattle.std.proofs.Common.{sym, ap, ◌∙◌, arith, to_z-of_z, w32, of_z}
use Rattle.writers.specs.Laws.Packed.{length-pack_one-short}
use Rattle.writers.proofs.packed.limits_of.Goals as goal

pub returns-then-is_short : goal.returns-then-is_short
returns-then-is_short c =
    let a = c in
    (sym (length-pack_one-short a.args.size c.cast_unsigned.result a.args.low a.args.span a.args.x a.ranges.x (c.cast_unsigned.ensures ∙ ap (of_z w32) (to_z-of_z {w = w32} a.ranges.x)) a.requires.0 a.requires.1 (sym c.is_short.ensures ∙ c.if-is_short.true)), omega arith)

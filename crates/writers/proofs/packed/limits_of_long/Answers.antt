-- A value of either sign has a limit for each time that its size reaches it, and the rest.
use Rattle.std.proofs.Common.{ℕ, ◌+◌, ◌/◌, sym, ap, ◌∙◌, ap₂, div-le_self, arith, to_z-of_z, w32, of_z}
use Rattle.writers.specs.Laws.Packed.{length-pack_one-up, length-pack_one-down}
use Rattle.writers.proofs.packed.limits_of_long.Goals as goal

pub returns-then-bits-lt2147483648 : goal.returns-then-bits-lt2147483648
returns-then-bits-lt2147483648 c =
    let a = c in
    let t = c.cast_unsigned-bits in
    let d = c.upper in
    let u = t.ensures ∙ ap (of_z w32) (to_z-of_z {w = w32} a.ranges.x) in
    let q = ap (λ (n : ℕ). t.result / n) d.ensures in
    (ap (λ (n : ℕ). n + 1) q ∙ sym (length-pack_one-up a.args.size t.result a.args.x a.ranges.x u c.if-bits-lt2147483648.true), omega (arith, div-le_self t.result d.result, t.type_inv))

pub returns : goal.returns
returns c =
    let a = c in
    let t = c.cast_unsigned-bits in
    let m = c.negated in
    let d = c.lower in
    let u = t.ensures ∙ ap (of_z w32) (to_z-of_z {w = w32} a.ranges.x) in
    let q = ap₂ (λ (m n : ℕ). m / n) m.ensures d.ensures in
    (ap (λ (n : ℕ). n + 1) q ∙ sym (length-pack_one-down a.args.size t.result a.args.x a.ranges.x u c.if-bits-lt2147483648.false), omega (arith, div-le_self m.result d.result, m.type_inv))

-- The loop's invariant: what was tested and what is left decide.
use Rattle.std.proofs.Common.{◌+◌, ◌<◌, Bool, ◌&&◌, length, drop, pos, sym, ap, ◌∙◌, arith, to_z-of_z, w32}
use mathlib.Core.Bool.{and-true}
use Rattle.steps.specs.Payload.{in_range, all_in}
use Rattle.steps.proofs.Laws.Lists.{drop_at, drop-end}
use Rattle.steps.proofs.Laws.Allowed.{all-at, all_none, and-more}
use Rattle.writers.proofs.each_in.Goals as goal

pub loop-i-preserved : goal.loop-i-preserved
loop-i-preserved c =
    let a = c.args in
    let p = c.loop-i in
    let h : p.i < length a.values.now = omega arith in
    let t = c.is_in-ok.ensures ∙ ap (in_range a.range) (to_z-of_z {w = w32} (record { sfits = c.is_in-arg-1.given })) in
    (omega arith, and-more p.ok c.is_in-ok.result (all_in a.range (drop (p.i + 1) a.values.now)) ∙ ap (λ (b : Bool). p.ok && (b && all_in a.range (drop (p.i + 1) a.values.now))) t ∙ ap (λ (b : Bool). p.ok && b) (sym (all-at a.range _ _ _ (drop_at (pos 0) a.values.now p.i h))) ∙ p.invariant.1)

pub returns : goal.returns
returns c =
    let a = c.args in
    let p = c.loop-i in
    sym (and-true p.ok) ∙ ap (λ (b : Bool). p.ok && b) (sym (all_none a.range _ (drop-end (pos 0) a.values.now p.i (omega arith)))) ∙ p.invariant.1

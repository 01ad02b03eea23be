-- The loop's invariant: what was tested and what is left decide.
use Rattle.std.proofs.Common.{◌+◌, Bool, ◌&&◌, leb, map, get_or, drop, pos, sym, ap, ◌∙◌, arith}
use mathlib.Core.Bool.{and-true}
use Rattle.steps.specs.declared.Range.TheVariants.{Ascii}
use Rattle.steps.specs.Payload.{all_in}
use Rattle.steps.proofs.Laws.Lists.{map_at, map-end}
use Rattle.steps.proofs.Laws.Allowed.{all-at, all_none, and-more, ascii}
use Rattle.writers.proofs.all_ascii.Goals as goal

pub loop-b-preserved : goal.loop-b-preserved
loop-b-preserved c =
    let s = c.args.values.now in
    let p = c.loop-b in
    let r = all_in Ascii (map pos (drop (p.b-index + 1) s)) in
    and-more p.ok (leb (get_or s p.b-index 0) 127) r ∙ ap (λ (b : Bool). p.ok && (b && r)) (sym (ascii (get_or s p.b-index 0))) ∙ ap (λ (b : Bool). p.ok && b) (sym (all-at Ascii _ _ _ (map_at pos 0 s p.b-index c.loop-b-test.true))) ∙ p.invariant

pub returns : goal.returns
returns c =
    let p = c.loop-b in
    sym (and-true p.ok) ∙ ap (λ (b : Bool). p.ok && b) (sym (all_none Ascii _ (map-end pos 0 c.args.values.now p.b-index (omega arith)))) ∙ p.invariant

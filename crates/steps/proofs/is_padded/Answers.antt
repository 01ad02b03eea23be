-- The loop's invariant: what was tested and what is left decide.
use Rattle.std.proofs.Common.{◌≡◌, ℕ, ◌+◌, ◌-◌, Bool, not, ◌&&◌, ◌||◌, eqb, map, get_or, drop, pos, sym, ap, ◌∙◌, arith}
use Rattle.steps.specs.Payload.{padded_from}
use Rattle.steps.proofs.Laws.Lists.{map_at, map-end}
use Rattle.steps.proofs.Laws.Allowed.{and-true, and-more}
use Rattle.steps.proofs.Laws.Padding.{name-first, name-next, name-end}
use Rattle.steps.proofs.is_padded.Goals as goal

pub loop-i-init : goal.loop-i-init
loop-i-init c = (omega arith, name-first c.args.name.now)

pub loop-i-preserved : goal.loop-i-preserved
loop-i-preserved c =
    let s = c.args.name.now in
    let p = c.loop-i in
    let a = get_or s (p.i - 1) 0 in
    let b = get_or s p.i 0 in
    let n : p.i + 1 - 1 ≡ p.i = omega arith in
    let r = padded_from 0 (p.i + 1) (pos b) (map pos (drop (p.i + 1) s)) in (
      omega arith,
      ap (λ (k : ℕ). (p.ok && (not (eqb a 0) || eqb b 0)) && padded_from 0 (p.i + 1) (pos (get_or s k 0)) (map pos (drop (p.i + 1) s))) n
          ∙ and-more p.ok (not (eqb a 0) || eqb b 0) r
          ∙ ap (λ (t : Bool). p.ok && t) (sym (name-next p.i a b _ _ p.invariant.0 (map_at pos 0 s p.i c.loop-i-test.true))) ∙ p.invariant.1,
    )

pub returns : goal.returns
returns c =
    let p = c.loop-i in
    let s = c.args.name.now in
    sym (and-true p.ok) ∙ ap (λ (t : Bool). p.ok && t) (sym (name-end p.i (pos (get_or s (p.i - 1) 0)) _ (map-end pos 0 s p.i (omega arith)))) ∙ p.invariant.1

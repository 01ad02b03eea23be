-- What is left of the values decides, since those before are plain.
use mathlib.Core.Path.{sym, ap, subst, ◌∙◌}
use Prim.Native.Nat.{ℕ}
use native.Mathlib.Omega.{arith}
use Rattle.values.specs.Laws.Places.{at-standing}
use Rattle.views.specs.Shapes.{is_plain}
use Rattle.views.specs.Laws.Shapes.{Plains, plains-start, plains-more, plains-out, plains-end}
use Rattle.views.proofs.shapes.all_plain.Goals as goal

pub loop-i-init : goal.loop-i-init
loop-i-init c = λ ds e a k. plains-start a (omega (arith, k))

pub returns-then-not-is_plain : goal.returns-then-not-is_plain
returns-then-not-is_plain c = λ ds e a k. plains-out (c.loop-i.invariant ds e a k) (omega arith) (ap is_plain (sym (c.kind_at.ensures.rule)) ∙ sym c.is_plain.ensures ∙ c.if-not-is_plain.true)

pub loop-i-preserved : goal.loop-i-preserved
loop-i-preserved c = λ ds e a k. subst (λ (n : ℕ). Plains c.args.file.now ds c.skip-p.result n e) (omega arith) (plains-more (c.loop-i.invariant ds e a k) (omega arith) (ap is_plain (sym (c.kind_at.ensures.rule)) ∙ sym c.is_plain.ensures ∙ c.if-not-is_plain.false) (λ x f d. c.skip-p.ensures f (at-standing d)))

pub returns : goal.returns
returns c = λ ds e a k. plains-end (c.loop-i.invariant ds e a k) (omega arith)

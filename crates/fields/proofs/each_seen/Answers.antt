-- The required rows before i are in the set, so what is left from i on decides.
use mathlib.Core.Path.{sym, ap, ◌∙◌}
use Prim.Native.Nat.{ℕ}
use native.Mathlib.Omega.{arith}
use Rattle.fields.specs.Numbers.{lacking}
use Rattle.fields.specs.Laws.Numbers.{covered_next, covered-not, covered_none}
use Rattle.fields.proofs.each_seen.Goals as goal

pub returns-then-lacks : goal.returns-then-lacks
returns-then-lacks c =
    let a = c.args in
    let l = c.loop-i in
    λ f. sym (l.invariant.1 f ∙ covered-not f a.n a.first l.i l.rest c.loop-i-test.true (ap (λ (x : ℕ). lacking x l.rest) (sym c.cell.ensures.is) ∙ sym c.lacks.ensures ∙ c.if-lacks.true))

pub loop-i-preserved : goal.loop-i-preserved
loop-i-preserved c =
    let a = c.args in
    let l = c.loop-i in
    (omega arith, λ f. l.invariant.1 f ∙ covered_next f a.n a.first l.i l.rest c.loop-i-test.true (ap (λ (x : ℕ). lacking x l.rest) (sym c.cell.ensures.is) ∙ sym c.lacks.ensures ∙ c.if-lacks.false))

pub returns : goal.returns
returns c =
    let a = c.args in
    let l = c.loop-i in
    λ f. sym (l.invariant.1 f ∙ covered_none f a.n a.first l.i l.rest c.loop-i-test.false)

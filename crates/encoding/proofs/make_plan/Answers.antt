-- The tests in their order are the conditions of the definition.
use mathlib.Core.Path.{◌≡◌, sym, ap₂, ◌∙◌}
use Prim.Native.Nat.{ℕ}
use native.Mathlib.Omega.{arith}
use Rattle.columns.specs.Table.{codec_with, codec_of}
use Rattle.columns.specs.Encode.{plan_with}
use Rattle.encoding.specs.Laws.Plan.{plan-unknown, plan-unwanted, plan-parameter, plan-part, plan-long, plan-good}
use Rattle.encoding.proofs.make_plan.Goals as goal
use Rattle.encoding.proofs.make_plan.Goals.{In-Some}

found : (c : goal.In-Some) → codec_of c.args.codec ≡ codec_with c.in-Some.row.kind c.in-Some.row.form c.in-Some.row.delta c.in-Some.row.parameter
found c = sym c.codec_of.ensures ∙ c.in-Some.is

pub returns-in_default : goal.returns-in_default
returns-in_default c =
    let a = c.args in
    sym (plan-unknown a.wanted a.codec a.parameter a.elements (sym c.codec_of.ensures ∙ c.in_default.is))

pub returns-then-not-is_wanted : goal.returns-then-not-is_wanted
returns-then-not-is_wanted c =
    let a = c.args in
    sym (plan-unwanted a.wanted a.codec a.parameter a.elements (found (goal.at.returns-then-not-is_wanted c).In-Some) (sym c.is_wanted.ensures ∙ c.if-not-is_wanted.true))

pub returns-then-not-parameter_ok : goal.returns-then-not-parameter_ok
returns-then-not-parameter_ok c =
    let a = c.args in
    sym (plan-parameter a.wanted a.codec a.parameter a.elements (found (goal.at.returns-then-not-parameter_ok c).In-Some) (sym c.is_wanted.ensures ∙ c.if-not-is_wanted.false) (sym c.parameter_ok.ensures ∙ c.if-not-parameter_ok.true))

pub returns-then-not-whole_results : goal.returns-then-not-whole_results
returns-then-not-whole_results c =
    let a = c.args in
    sym (plan-part a.wanted a.codec a.parameter a.elements (found (goal.at.returns-then-not-whole_results c).In-Some) (sym c.is_wanted.ensures ∙ c.if-not-is_wanted.false) (sym c.parameter_ok.ensures ∙ c.if-not-parameter_ok.false) (sym c.whole_results.ensures ∙ c.if-not-whole_results.true))

pub returns-then-n : goal.returns-then-n
returns-then-n c =
    let a = c.args in
    sym (plan-long a.wanted a.codec a.parameter a.elements (found (goal.at.returns-then-n c).In-Some) (sym c.is_wanted.ensures ∙ c.if-not-is_wanted.false) (sym c.parameter_ok.ensures ∙ c.if-not-parameter_ok.false) (sym c.whole_results.ensures ∙ c.if-not-whole_results.false) (omega (arith, c.count_results-n.ensures)))

pub returns : goal.returns
returns c =
    let a = c.args in
    ap₂ (λ (n v : ℕ). plan_with c.in-Some.row.form c.in-Some.row.delta n v) c.count_results-n.ensures c.used_parameter.ensures
    ∙ sym (plan-good a.wanted a.codec a.parameter a.elements (found (goal.at.returns c).In-Some) (sym c.is_wanted.ensures ∙ c.if-not-is_wanted.false) (sym c.parameter_ok.ensures ∙ c.if-not-parameter_ok.false) (sym c.whole_results.ensures ∙ c.if-not-whole_results.false) (omega (arith, c.count_results-n.ensures)))

-- Each test is one of rules 2 and 3.
use mathlib.Core.Path.{refl, sym, ◌∙◌}
use Rattle.std.proofs.Common.{lit≤}
use Rattle.std.proofs.lemmas.Result.{err_from_is_err_and}
use Rattle.refusal.proofs.Laws.First.{number-unless}
use Rattle.file_columns.specs.Laws.Exits.{rule-broken, rule_holds, ok_or-none}
use Rattle.refusal.specs.declared.Refusal.TheVariants.{ValueOutside}
use Rattle.text.specs.Equal.{equal}
use Rattle.fields.specs.Table.{named}
use Rattle.fields.specs.Fields.{field, find_row, is_required}
use Rattle.counts.proofs.Laws.Steps.{count-named, sum-named, items-integers, sum-negative, sum_is, chains-unfit, chains-groups, chains-models, chains-are}
use Rattle.counts.proofs.chains_refusal.Goals as goal

pub returns-in_err-unless : goal.returns-in_err-unless
returns-in_err-unless c =
    λ es f k.
    let b = rule-broken _ _ c.in_err-unless.field-0.0 (number-unless _ _ c.in_err-unless.ensures) in
    let e = err_from_is_err_and c.from_residual.result c.from_residual.ensures.1 in
    rw (e.1, e.2) (b.1 ∙ chains-unfit k (sym c.counts_fit.ensures ∙ b.0))

pub returns-in_err-groups : goal.returns-in_err-groups
unfolding find_row is_required equal named
returns-in_err-groups c =
    λ es f k.
    let fit = sym c.counts_fit.ensures ∙ rule_holds _ _ (lit≤ tt) (number-unless _ _ c.in_ok-unless.ensures) in
    let r = ok_or-none c.sum_at.result ValueOutside c.in_err-groups.field-0.0 c.in_err-groups.ensures.value in
    let e = err_from_is_err_and c.from_residual-in_err-groups.result c.from_residual-in_err-groups.ensures.1 in
    rw (e.1, e.2, r.1) (chains-groups k fit (sum-negative _ (sym r.0 ∙ sum-named f "groupsPerChain" refl refl refl (λ l x e a. c.sum_at.ensures l x e a))))

pub returns-in_err-chains : goal.returns-in_err-chains
unfolding find_row is_required equal named
returns-in_err-chains c =
    λ es f k.
    let fit = sym c.counts_fit.ensures ∙ rule_holds _ _ (lit≤ tt) (number-unless _ _ c.in_ok-unless.ensures) in
    let gs = sum_is _ _ (sym c.in_ok-groups.ensures.ok_part ∙ sum-named f "groupsPerChain" refl refl refl (λ l x e a. c.sum_at.ensures l x e a)) in
    let r = ok_or-none c.sum_at-2.result ValueOutside c.in_err-chains.field-0.0 c.in_err-chains.ensures.value in
    let e = err_from_is_err_and c.from_residual-in_err-chains.result c.from_residual-in_err-chains.ensures.1 in
    rw (e.1, e.2, r.1) (chains-models k fit gs.0 (sum-negative _ (sym r.0 ∙ sum-named f "chainsPerModel" refl refl refl (λ l x e a. c.sum_at-2.ensures l x e a))))

pub returns : goal.returns
unfolding find_row is_required equal named
returns c =
    λ es f k.
    let fit = sym c.counts_fit.ensures ∙ rule_holds _ _ (lit≤ tt) (number-unless _ _ c.in_ok-unless.ensures) in
    let gs = sum_is _ _ (sym c.in_ok-groups.ensures.ok_part ∙ sum-named f "groupsPerChain" refl refl refl (λ l x e a. c.sum_at.ensures l x e a)) in
    let ms = sum_is _ _ (sym c.in_ok-chains.ensures.ok_part ∙ sum-named f "chainsPerModel" refl refl refl (λ l x e a. c.sum_at-2.ensures l x e a)) in
    let mc = c.unwrap_or-models.ensures ∙ count-named f "chainsPerModel" refl refl (λ o p. c.length_at.ensures.is o p) ∙ items-integers (field "chainsPerModel" es) in
    let gc = c.unwrap_or-ends.ensures ∙ count-named f "groupsPerChain" refl refl (λ o p. c.length_at-2.ensures.is o p) ∙ items-integers (field "groupsPerChain" es) in
    number-unless _ _ c.unless-2.ensures ∙ chains-are k fit gs.0 ms.0 mc ms.1 gc gs.1 (sym c.chains_agree.ensures)

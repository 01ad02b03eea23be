-- Each test is one of rule 5, in its order.
use Rattle.std.proofs.Common.{sym, ◌∙◌, lit≤}
use Rattle.std.proofs.lemmas.Result.{err_from_is_err_and}
use Rattle.values.specs.Parts.{under}
use Rattle.refusal.proofs.Laws.First.{number-unless}
use Rattle.file_columns.specs.Laws.Exits.{rule-broken, rule_holds}
use Rattle.counts.proofs.Laws.Group.{lists-are, group-lists, lists-inside, lists-orders}
use Rattle.counts.proofs.groups.judge.Goals as goal

pub returns-in_err-unless : goal.returns-in_err-unless
returns-in_err-unless c =
    λ x p k.
    let b = rule-broken _ _ c.in_err-unless.field-0.0 (number-unless _ _ c.in_err-unless.ensures) in
    let e = err_from_is_err_and c.from_residual.result c.from_residual.ensures.1 in
    rw (e.1, e.2) (b.1 ∙ group-lists x (sym (lists-are k) ∙ sym c.lists_agree.ensures ∙ b.0))

pub returns-in_err-unless-2 : goal.returns-in_err-unless-2
returns-in_err-unless-2 c =
    λ x p k.
    let l = sym (lists-are k) ∙ sym c.lists_agree.ensures ∙ rule_holds _ _ (lit≤ tt) (number-unless _ _ c.in_ok-unless.ensures) in
    let b = rule-broken _ _ c.in_err-unless-2.field-0.0 (number-unless _ _ c.in_err-unless-2.ensures) in
    let e = err_from_is_err_and c.from_residual-in_err-unless-2.result c.from_residual-in_err-unless-2.ensures.1 in
    let i = rw k.atoms_are at (sym (c.inside.ensures (under "bondAtomList" x) p.bonds) ∙ b.0) in
    rw (e.1, e.2) (b.1 ∙ lists-inside x l i)

pub returns : goal.returns
returns c =
    λ x p k.
    let l = sym (lists-are k) ∙ sym c.lists_agree.ensures ∙ rule_holds _ _ (lit≤ tt) (number-unless _ _ c.in_ok-unless.ensures) in
    let i = rw k.atoms_are at (sym (c.inside.ensures (under "bondAtomList" x) p.bonds) ∙ rule_holds _ _ (lit≤ tt) (number-unless _ _ c.in_ok-unless-2.ensures)) in
    number-unless _ _ c.unless-3.ensures ∙ lists-orders x l i c.orders_right.result (sym (c.orders_right.ensures (under "bondOrderList" x) p.orders))

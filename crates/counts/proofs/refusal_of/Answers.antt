-- Each part of the rules in its order.
use mathlib.Core.Path.{refl, sym, ◌∙◌}
use Prim.Native.Nat.{◌≤◌}
use native.Mathlib.Omega.{arith}
use borrow.Author.Tests.{leb-true, leb-false}
use Rattle.std.proofs.Common.{lit≤}
use Rattle.std.proofs.lemmas.Result.{err_from_is_err_and}
use Rattle.refusal.specs.Table.{refusal_number}
use Rattle.text.specs.Equal.{equal}
use Rattle.fields.specs.Table.{named}
use Rattle.file_columns.specs.Cells.{type_limit}
use Rattle.fields.specs.Fields.{find_row}
use Rattle.counts.specs.Counts.{counted_of}
use Rattle.refusal.proofs.Laws.First.{number-unless}
use Rattle.file_columns.specs.Laws.Exits.{some_number, rule-broken, rule_holds}
use Rattle.counts.proofs.Laws.Steps.{count-named, types-few, types-many, chains-fine, counts-types, counts-chains, counts-lengths, counts-groups, counts-values}
use Rattle.counts.proofs.refusal_of.Goals as goal
use Rattle.counts.proofs.refusal_of.Goals.{In_ok-unless}

few : (c : In_ok-unless) → c.unwrap_or-types.result ≤ type_limit
few c = leb-true _ _ (sym c.types_fit.ensures ∙ rule_holds _ _ (lit≤ tt) (number-unless _ _ c.in_ok-unless.ensures))

pub returns-in_err-unless : goal.returns-in_err-unless
unfolding find_row equal named
returns-in_err-unless c =
    λ es f.
    let ty = c.unwrap_or-types.ensures ∙ count-named f "groupList" refl refl (λ o p. c.length_at.ensures.is o p) in
    let b = rule-broken _ _ c.in_err-unless.field-0.0 (number-unless _ _ c.in_err-unless.ensures) in
    let e = err_from_is_err_and c.from_residual.result c.from_residual.ensures.1 in
    rw (e.1, e.2) (b.1 ∙ counts-types (counted_of es) (types-many (counted_of es) _ ty (leb-false _ _ (sym c.types_fit.ensures ∙ b.0))))

pub returns-in_err-chains_refusal : goal.returns-in_err-chains_refusal
unfolding find_row equal named
returns-in_err-chains_refusal c =
    λ es f.
    let ty = c.unwrap_or-types.ensures ∙ count-named f "groupList" refl refl (λ o p. c.length_at.ensures.is o p) in
    let k = c.counts_at-counts.ensures.fields es f in
    let d = c.in_err-chains_refusal.field-0.0 in
    let e = err_from_is_err_and c.from_residual-in_err-chains_refusal.result c.from_residual-in_err-chains_refusal.ensures.1 in
    rw (e.1, e.2) (counts-chains (counted_of es) (types-few (counted_of es) _ ty (few (goal.at.returns-in_err-chains_refusal c).In_ok-unless)) (refusal_number d) (some_number d) (c.in_err-chains_refusal.ensures es f k))

pub returns-in_err-unless-2 : goal.returns-in_err-unless-2
unfolding find_row equal named
returns-in_err-unless-2 c =
    λ es f.
    let ty = c.unwrap_or-types.ensures ∙ count-named f "groupList" refl refl (λ o p. c.length_at.ensures.is o p) in
    let k = c.counts_at-counts.ensures.fields es f in
    let z = sym (c.in_ok-chains_refusal.ensures es f k) in
    let a = chains-fine k z in
    let b = rule-broken _ _ c.in_err-unless-2.field-0.0 (number-unless _ _ c.in_err-unless-2.ensures) in
    let l = rw (a.atoms, a.groups, a.chains) at (sym (c.lengths_fit-fit.ensures es f.places_of f.right) ∙ b.0) in
    let e = err_from_is_err_and c.from_residual-in_err-unless-2.result c.from_residual-in_err-unless-2.ensures.1 in
    rw (e.1, e.2) (b.1 ∙ counts-lengths (counted_of es) (types-few (counted_of es) _ ty (few (goal.at.returns-in_err-unless-2 c).In_ok-unless)) z l)

pub returns-in_err-groups_refusal : goal.returns-in_err-groups_refusal
unfolding find_row equal named
returns-in_err-groups_refusal c =
    λ es f.
    let ty = c.unwrap_or-types.ensures ∙ count-named f "groupList" refl refl (λ o p. c.length_at.ensures.is o p) in
    let k = c.counts_at-counts.ensures.fields es f in
    let z = sym (c.in_ok-chains_refusal.ensures es f k) in
    let a = chains-fine k z in
    let l = rw (a.atoms, a.groups, a.chains) at (sym (c.lengths_fit-fit.ensures es f.places_of f.right) ∙ rule_holds _ _ (lit≤ tt) (number-unless _ _ c.in_ok-unless-2.ensures)) in
    let small = few (goal.at.returns-in_err-groups_refusal c).In_ok-unless in
    let d = c.in_err-groups_refusal.field-0.0 in
    let e = err_from_is_err_and c.from_residual-in_err-groups_refusal.result c.from_residual-in_err-groups_refusal.ensures.1 in
    rw (e.1, e.2) (counts-groups (counted_of es) (types-few (counted_of es) _ ty small) z l (refusal_number d) (some_number d) (c.in_err-groups_refusal.ensures es f a (omega (arith, ty))))

pub returns : goal.returns
unfolding find_row equal named
returns c =
    λ es f.
    let ty = c.unwrap_or-types.ensures ∙ count-named f "groupList" refl refl (λ o p. c.length_at.ensures.is o p) in
    let k = c.counts_at-counts.ensures.fields es f in
    let z = sym (c.in_ok-chains_refusal.ensures es f k) in
    let a = chains-fine k z in
    let l = rw (a.atoms, a.groups, a.chains) at (sym (c.lengths_fit-fit.ensures es f.places_of f.right) ∙ rule_holds _ _ (lit≤ tt) (number-unless _ _ c.in_ok-unless-2.ensures)) in
    let small = few (goal.at.returns c).In_ok-unless in
    let g = sym (c.in_ok-groups_refusal.ensures es f a (omega (arith, ty))) in
    counts-values (counted_of es) (types-few (counted_of es) _ ty small) z l _ g (c.values_refusal.ensures es f a)

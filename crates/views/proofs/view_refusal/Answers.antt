-- The number goes with the place.
use mathlib.Core.Path.{sym, ap, ◌∙◌}
use native.Mathlib.Omega.{arith}
use Rattle.std.proofs.lemmas.Result.{err_from_is_err_and}
use Rattle.refusal.specs.Outcome.{numbered}
use Rattle.numbers.specs.Laws.BigEndian.{bytes-of}
use Rattle.views.specs.Laws.View.{place_of-number}
use Rattle.views.proofs.view_refusal.Goals as goal

pub returns : goal.returns
returns c =
    let whole = place_of-number _ _ (bytes-of _ (λ i. omega (arith, c.type_inv.file i))) (sym c.find.ensures ∙ ap numbered c.in_ok-find.was) in
    record { number = whole.0; exactly = whole.1 }

pub returns-in_err-find : goal.returns-in_err-find
returns-in_err-find c =
    let whole = place_of-number _ _ (bytes-of _ (λ i. omega (arith, c.type_inv.file i))) (sym c.find.ensures ∙ ap numbered c.in_err-find.was) in
    let p = err_from_is_err_and c.from_residual.result c.from_residual.ensures.1 in
    record { number = rw (p.1, p.2) whole.0; exactly = rw (p.1, p.2) whole.1 }

-- What the check of the column answers is its refusal.
use Rattle.std.proofs.Common.{sym}
use Rattle.std.proofs.lemmas.Result.{err_from_is_err_and}
use Rattle.file_columns.specs.Laws.Steps.{read-refused, read-good}
use Rattle.file_columns.proofs.refusal_at.Goals as goal

pub returns : goal.returns
returns c = λ o p. read-good p c.if-at-eq0.false c.text_at-part.result (λ x e a. c.text_at-part.ensures.says x e a) c.args.wanted _ (sym c.in_ok-check.ensures)

pub returns-in_err-check : goal.returns-in_err-check
returns-in_err-check c =
    λ o p.
    let e = err_from_is_err_and c.from_residual.result c.from_residual.ensures.1 in
    rw (e.1, e.2) (read-refused p c.if-at-eq0.false c.text_at-part.result (λ x e a. c.text_at-part.ensures.says x e a) c.args.wanted _ (sym c.in_err-check.ensures))

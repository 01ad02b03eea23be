-- The number is 0 exactly for an accepted file.
use mathlib.Core.Path.{sym, ap, ◌∙◌}
use native.Mathlib.Omega.{arith}
use Rattle.std.proofs.lemmas.Result.{err_from_is_err_and}
use Rattle.refusal.specs.Outcome.{number_of}
use Rattle.numbers.specs.Laws.BigEndian.{bytes-of}
use Rattle.structure.proofs.Laws.Accepted.{verdict-says}
use Rattle.structure.proofs.verdict.Goals as goal

pub returns : goal.returns
returns c =
    let whole = verdict-says _ _ (bytes-of c.args.file.now (λ i. omega (arith, c.type_inv.file i))) (sym (ap number_of c.in_ok-judged.was) ∙ c.judged.ensures.number) in
    record { number = whole.0; exactly = whole.1 }

pub returns-in_err-judged : goal.returns-in_err-judged
returns-in_err-judged c =
    let whole = verdict-says _ _ (bytes-of c.args.file.now (λ i. omega (arith, c.type_inv.file i))) (sym (ap number_of c.in_err-judged.was) ∙ c.judged.ensures.number) in
    let p = err_from_is_err_and c.from_residual.result c.from_residual.ensures.1 in
    record { number = rw (p.1, p.2) whole.0; exactly = rw (p.1, p.2) whole.1 }

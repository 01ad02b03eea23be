-- The fields, then the columns, then the counts.
use mathlib.Core.Path.{sym, ap, ◌∙◌}
use Rattle.std.proofs.lemmas.Result.{err_from_is_err_and}
use Rattle.refusal.specs.Outcome.{number_of}
use Rattle.refusal.proofs.Laws.First.{refused-or_else, passed-or_else}
use Rattle.fields.specs.Laws.Fields.{fields-exactly}
use Rattle.file_columns.specs.Laws.Columns.{columns-exactly}
use Rattle.structure.proofs.Laws.Summary.{refusal-numbered}
use Rattle.structure.proofs.document_refusal.Goals as goal

pub returns-in_err-refusal_of : goal.returns-in_err-refusal_of
returns-in_err-refusal_of c =
    let p = err_from_is_err_and c.from_residual.result c.from_residual.ensures.1 in
    λ l es n. rw (p.1, p.2) (refused-or_else _ _ _ (refusal-numbered _) (sym (ap number_of c.in_err-refusal_of.was) ∙ c.refusal_of.ensures es n))

pub returns-in_err-columns_refusal : goal.returns-in_err-columns_refusal
returns-in_err-columns_refusal c =
    let p = err_from_is_err_and c.from_residual-in_err-columns_refusal.result c.from_residual-in_err-columns_refusal.ensures.1 in
    λ l es n.
    let z = sym (c.refusal_of.ensures es n) ∙ ap number_of c.in_ok-refusal_of.was in
    rw (p.1, p.2) (passed-or_else _ _ _ z (refused-or_else _ _ _ (refusal-numbered _) (sym (ap number_of c.in_err-columns_refusal.was) ∙ c.columns_refusal.ensures es n.places)))

pub returns : goal.returns
returns c =
    λ l es n.
    let z = sym (c.refusal_of.ensures es n) ∙ ap number_of c.in_ok-refusal_of.was in
    let p = n.places in
    let y = sym (c.columns_refusal.ensures es p) ∙ ap number_of c.in_ok-columns_refusal.was in
    let r = (fields-exactly es).0 z in
    passed-or_else _ _ _ z (passed-or_else _ _ _ y (c.refusal_of-2.ensures es (record { places_of = p; has = r.has; right = (columns-exactly es).0 y; short = l })))

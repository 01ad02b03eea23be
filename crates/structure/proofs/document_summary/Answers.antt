-- A document that is refused has its number; one that is not has its counts and its fields.
use mathlib.Core.Path.{sym, ap, ◌∙◌}
use Rattle.std.proofs.lemmas.Result.{err_from_is_err_and}
use Rattle.refusal.specs.Outcome.{number_of}
use Rattle.structure.proofs.Laws.Accepted.{entries-exactly}
use Rattle.structure.proofs.Laws.Summary.{summary-counted}
use Rattle.structure.proofs.document_summary.Goals as goal

pub returns-in_err-document_refusal : goal.returns-in_err-document_refusal
returns-in_err-document_refusal c =
    let p = err_from_is_err_and c.from_residual.result c.from_residual.ensures.1 in
    λ l es n. rw (p.1, p.2) (sym (ap number_of c.in_err-document_refusal.was) ∙ c.document_refusal.ensures l es n, tt)

pub returns : goal.returns
returns c =
    λ l es n.
    let z = sym (c.document_refusal.ensures l es n) ∙ ap number_of c.in_ok-document_refusal.was in
    let r = (entries-exactly es).0 z in
    let k = c.counts_at-counts.ensures.fields es (record { places_of = n.places; has = r.0.has; right = r.1; short = l }) in
    (sym z, c.accepted_with.ensures ∙ summary-counted es k r.2 n.presence)

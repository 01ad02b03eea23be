-- The container, then its document.
use mathlib.Core.Path.{sym, ap, ◌∙◌}
use Rattle.std.proofs.lemmas.Result.{err_from_is_err_and}
use Rattle.refusal.specs.Outcome.{number_of}
use Rattle.messagepack.specs.Document.{map}
use Rattle.values.specs.Laws.Places.{outer-at}
use Rattle.structure.proofs.Laws.Accepted.{verdict-container, verdict-document}
use Rattle.structure.proofs.Laws.Summary.{refusal-numbered, summary-judged}
use Rattle.structure.proofs.judged.Goals as goal

pub returns-in_err-container : goal.returns-in_err-container
returns-in_err-container c =
    let p = err_from_is_err_and c.from_residual.result c.from_residual.ensures.1 in
    record { number = rw (p.1, p.2) (verdict-container _ _ (refusal-numbered _) (sym (ap number_of c.in_err-container.was) ∙ c.container.ensures.number)); summary = rw p.1 tt }

pub returns : goal.returns
returns c =
    let k = c.container.ensures in
    let z = ap number_of c.in_ok-container.was in
    let box = k.exactly.0 z in
    let e = c.entries_at-entries.ensures.says (map box.entries) _ (outer-at box) in
    let n = c.note-noted.ensures.noted box.entries e.end e.all e.counts in
    let d = c.document_summary.ensures box.fits box.entries n in
    record { number = verdict-document _ _ box (sym k.number ∙ z) d.0; summary = summary-judged _ box (sym k.number ∙ z) c.document_summary.result d.0 d.1 }

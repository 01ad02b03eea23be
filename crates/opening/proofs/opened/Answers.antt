-- The refusal of the document, then the room, then the parts.
use mathlib.Core.Path.{◌≡◌, refl, sym, ap, ◌∙◌}
use mathlib.Core.Bool.{false, ◌&&◌}
use lib.Dec.{leb}
use lib.ListN.{length}
use borrow.Author.Tests.{le-leb, lt-leb}
use Rattle.std.proofs.lemmas.Result.{err_from_is_err_and}
use Rattle.refusal.specs.Outcome.{number_of}
use Rattle.structure.proofs.Laws.Summary.{refusal-numbered}
use Rattle.fields.specs.Table.{field_count}
use Rattle.opening.specs.Laws.Opening.{opening-document, opening-short, opening-accepted}
use Rattle.opening.proofs.opened.Goals as goal
use Rattle.opening.proofs.opened.Goals.{then-starts-lt-FIELD_COUNT-via-then-starts-lt-FIELD_COUNT, then-starts-lt-FIELD_COUNT-via-else-starts-lt-FIELD_COUNT+then-lengths-lt-FIELD_COUNT}

pub returns-in_err-document_refusal : goal.returns-in_err-document_refusal
returns-in_err-document_refusal c =
    let r = c.requires in
    let q = sym (ap number_of c.in_err-document_refusal.was) ∙ c.document_refusal.ensures r.container.fits r.container.entries r.fields in
    let p = err_from_is_err_and c.from_residual.result c.from_residual.ensures.1 in
    record { answer = rw (p.1, p.2) (opening-document r.container r.passed _ _ _ q (refusal-numbered _)); starts = rw p.1 refl; lengths = rw p.1 refl }

pub returns-then-starts-lt-FIELD_COUNT : goal.returns-then-starts-lt-FIELD_COUNT
returns-then-starts-lt-FIELD_COUNT c =
    let a = c.args in
    let r = c.requires in
    let q = c.document_refusal.ensures r.container.fits r.container.entries r.fields in
    let short : (leb field_count (length a.starts.now) && leb field_count (length a.lengths.now)) ≡ false =
    elim c.then-starts-lt-FIELD_COUNT.branch [
      | then-starts-lt-FIELD_COUNT-via-then-starts-lt-FIELD_COUNT w ↦ rw (lt-leb field_count (length a.starts.now) w.if-starts-lt-FIELD_COUNT.true)
      | then-starts-lt-FIELD_COUNT-via-else-starts-lt-FIELD_COUNT+then-lengths-lt-FIELD_COUNT w ↦ rw (le-leb field_count (length a.starts.now) w.if-starts-lt-FIELD_COUNT.false, lt-leb field_count (length a.lengths.now) w.if-lengths-lt-FIELD_COUNT.true)
    ] in
    record { answer = opening-short r.container r.passed _ _ _ q (ap number_of c.in_ok-document_refusal.was) short; starts = refl; lengths = refl }

pub returns : goal.returns
returns c =
    let r = c.requires in
    let q = c.document_refusal.ensures r.container.fits r.container.entries r.fields in
    record { answer = opening-accepted r.container r.passed _ _ _ q (ap number_of c.in_ok-document_refusal.was) c.if-starts-lt-FIELD_COUNT.false c.if-lengths-lt-FIELD_COUNT.false r.fields.presence; starts = c.put_parts.ensures.starts; lengths = c.put_parts.ensures.lengths }

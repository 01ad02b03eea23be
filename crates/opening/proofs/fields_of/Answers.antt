-- The container, then its document by what is noted of its fields.
use mathlib.Core.Path.{refl, sym, ap, ◌∙◌}
use native.Mathlib.Omega.{arith}
use Rattle.std.proofs.lemmas.Result.{err_from_is_err_and}
use Rattle.refusal.specs.Outcome.{number_of}
use Rattle.structure.proofs.Laws.Summary.{refusal-numbered}
use Rattle.numbers.specs.Laws.BigEndian.{bytes-of}
use Rattle.messagepack.specs.Document.{map}
use Rattle.values.specs.Laws.Places.{outer-at}
use Rattle.opening.specs.Laws.Places.{outer-read, spans-say}
use Rattle.opening.specs.Laws.Opening.{opening-container}
use Rattle.opening.proofs.fields_of.Goals as goal

pub returns-in_err-container : goal.returns-in_err-container
returns-in_err-container c =
    let p = err_from_is_err_and c.from_residual.result c.from_residual.ensures.1 in
    record {
      answer = rw (p.1, p.2) (opening-container _ _ _ _ (refusal-numbered _) (sym (ap number_of c.in_err-container.was) ∙ c.container.ensures.number));
      starts = rw p.1 refl;
      lengths = rw p.1 refl;
    }

pub opened-requires : goal.opened-requires
opened-requires c =
    let k = c.container.ensures in
    let z = ap number_of c.in_ok-container.was in
    let box = k.exactly.0 z in
    let p = c.entries_at-entries.ensures in
    let e = p.says (map box.entries) _ (outer-at box) in
    let n = c.note-noted.ensures in
    let bytes = bytes-of c.args.file.now (λ i. omega (arith, c.type_inv.file i)) in
    record {
      container = box;
      passed = sym k.number ∙ z;
      fields = n.noted box.entries e.end e.all e.counts;
      spans = spans-say box (sym k.number ∙ z) (outer-read box bytes p.table) e.counts e.all (n.spans box.entries e.end e.all e.counts);
    }

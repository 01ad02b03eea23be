-- The literal is the table of forms as bytes, which is computed once over all of it; the row is that of the sentence's form. Assumes nothing.
use mathlib.Core.Path.{refl, sym, ap, ◌∙◌}
use Rattle.text.specs.Laws.Put.{put_as}
use Rattle.meanings.specs.Meanings.{text_in}
use Rattle.meanings.specs.Steps.{rows_of}
use Rattle.meanings.specs.Laws.Steps.{table-words}
use Rattle.sentences.specs.Shown.{replaced}
use Rattle.sentences.specs.Sentences.{mark_of}
use Rattle.sentences.specs.Steps.{forms}
use Rattle.sentences.specs.Laws.Steps.{row-form}
use Rattle.sentences.proofs.put_form.Goals as goal

pub returns : goal.returns
unfolding forms rows_of
returns c =
    let a = c.args in
    let row = ap (text_in forms) c.row_of.ensures ∙ row-form a.sentence in
    put_as c.put_replaced.ensures (ap (replaced (mark_of a.subject.now a.name.now a.sentence)) (sym (c.words_in-form.ensures ∙ table-words forms c.row_of.result refl refl ∙ row)))

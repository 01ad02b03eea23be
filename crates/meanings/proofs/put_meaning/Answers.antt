-- The literal is the table of meanings as bytes, which is computed once over all of it.
use mathlib.Core.Path.{refl, sym, ◌∙◌}
use Rattle.text.specs.Laws.Put.{put_as}
use Rattle.meanings.specs.Meanings.{meanings, meaning_of}
use Rattle.meanings.specs.Steps.{rows_of}
use Rattle.meanings.specs.Laws.Steps.{table-words}
use Rattle.meanings.proofs.put_meaning.Goals as goal

pub returns : goal.returns
unfolding meaning_of rows_of meanings
returns c =
    let number = c.args.number in
    put_as c.put.ensures (sym (c.words_in-words.ensures ∙ table-words meanings number refl refl))

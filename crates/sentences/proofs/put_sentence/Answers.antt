-- A line feed follows the form. Assumes nothing.
use Rattle.text.specs.Laws.Put.{put-more}
use Rattle.sentences.proofs.put_sentence.Goals as goal

pub returns : goal.returns
returns c = put-more c.put_form-end.ensures c.put_byte.ensures

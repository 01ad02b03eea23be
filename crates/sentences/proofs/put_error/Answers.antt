-- One piece after the other. Assumes nothing.
use Rattle.text.specs.Laws.Put.{put-more}
use Rattle.sentences.proofs.put_error.Goals as goal

pub returns : goal.returns
returns c = put-more c.put-digits.ensures c.put_decimal.ensures

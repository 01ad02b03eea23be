-- The line feed comes after the text.
use Rattle.text.specs.Laws.Put.{put-more}
use Rattle.lines.proofs.single.put_string.Goals as goal

pub returns : goal.returns
returns c = put-more c.put_escaped-end.ensures c.put_byte.ensures

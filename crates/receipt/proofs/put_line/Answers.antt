-- Name, sign, digits and line feed are put one after another. Assumes nothing.
use Rattle.text.specs.Laws.Put.{put-more}
use Rattle.receipt.specs.Receipt.{line}
use Rattle.receipt.proofs.put_line.Goals as goal

pub returns : goal.returns
unfolding line
returns c = put-more c.put-sign.ensures (put-more c.put_byte-digits.ensures (put-more c.put_decimal-end.ensures c.put_byte.ensures))

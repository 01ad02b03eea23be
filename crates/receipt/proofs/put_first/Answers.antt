-- Three lines are put one after another. Assumes nothing.
use Rattle.text.specs.Laws.Put.{put-more}
use Rattle.receipt.proofs.put_first.Goals as goal

pub returns : goal.returns
returns c = put-more (put-more c.put_line-job.ensures c.put_line-verdict.ensures) c.put_line.ensures

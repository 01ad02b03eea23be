-- The rows are the kinds of the lead-byte rule, which is computed once over all 256.
use mathlib.Core.Path.{refl}
use Rattle.heads.specs.Lead.{kind_of}
use Rattle.heads.specs.Table.{kind_table}
use Rattle.heads.proofs.kinds.Goals as goal

pub returns : goal.returns
unfolding kind_table kind_of
returns c = refl

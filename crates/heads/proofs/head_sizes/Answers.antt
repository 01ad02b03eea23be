-- The rows are the head sizes of the lead-byte rule, which is computed once over all 256.
use mathlib.Core.Path.{refl}
use Rattle.heads.specs.Lead.{more_of}
use Rattle.heads.specs.Table.{size_table}
use Rattle.heads.proofs.head_sizes.Goals as goal

pub returns : goal.returns
unfolding size_table more_of
returns c = refl

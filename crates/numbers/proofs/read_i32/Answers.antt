-- The unsigned number at the same place, read in two's complement.
use mathlib.Core.Path.{ap, ◌∙◌}
use mir.Facts.{to_z-of_z}
use mir.Syntax.{w32}
use mir.Val.{to_z}
use Rattle.numbers.specs.BigEndian.{signed_at}
use Rattle.numbers.proofs.read_i32.Goals as goal

pub returns : goal.returns
unfolding signed_at
returns c = to_z-of_z {w = w32} (record { sfits = c.cast_signed.type_inv }) ∙ c.cast_signed.ensures ∙ ap (to_z w32) c.read_u32.ensures

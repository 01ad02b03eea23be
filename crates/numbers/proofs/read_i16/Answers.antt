-- The unsigned number at the same place, read in two's complement.
use mathlib.Core.Path.{ap, ◌∙◌}
use mir.Facts.{to_z-of_z}
use mir.Syntax.{w16}
use mir.Val.{to_z}
use Rattle.numbers.specs.BigEndian.{signed_at}
use Rattle.numbers.proofs.read_i16.Goals as goal

pub returns : goal.returns
unfolding signed_at
returns c = to_z-of_z {w = w16} (record { sfits = c.cast_signed.type_inv }) ∙ c.cast_signed.ensures ∙ ap (to_z w16) c.read_u16.ensures

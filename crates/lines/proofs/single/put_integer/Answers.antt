-- The divisor 1 gives no decimal places.
use mathlib.Core.Path.{refl}
use Rattle.lines.specs.Texts.{places_below, places_of}
use Rattle.lines.proofs.single.put_integer.Goals as goal

pub put_number-requires : goal.put_number-requires
unfolding places_of places_below
put_number-requires c = refl

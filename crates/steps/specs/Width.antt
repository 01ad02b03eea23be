-- The sizes that a payload's numbers have. No lemma stands here. Assumes nothing.
use Rattle.std.specs.Prelude.{ℕ}
use Rattle.std.specs.Int.{Width, w8, w16, w32}
use Rattle.steps.specs.declared.Size.{Size}
use Rattle.steps.specs.declared.Size.TheVariants.{One, Two, Four}

-- the width of a number of a size, in bits
abbrev pub width_of : Size → Width
width_of One = w8
width_of Two = w16
width_of Four = w32

-- how many bytes a number of a size has
abbrev pub size_of : Size → ℕ
size_of One = 1
size_of Two = 2
size_of Four = 4

-- the limits of a size: its largest number, and the size of its smallest
abbrev pub upper : Size → ℕ
upper One = 127
upper Two = 32767
upper Four = 2147483647

abbrev pub lower : Size → ℕ
lower One = 128
lower Two = 32768
lower Four = 2147483648

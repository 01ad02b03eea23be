-- The bits of a quotient, and what may be divided: for the code inside. No lemma stands here. Assumes nothing.
use Rattle.std.specs.Prelude.{Bool, true, false, not, List, ℕ, ◌≤◌, ℤ, T, Float}
use Rattle.std.specs.Float.{binary32}
use Rattle.std.specs.Float.Ieee.{of_int, div, to_bits}
use Rattle.std.specs.Float.Ieee.Positive.{positive}
use Rattle.steps.specs.declared.Size.TheVariants.{One, Two, Four}
use Rattle.steps.specs.declared.Form.{Form}
use Rattle.steps.specs.declared.Form.TheVariants.{Plain, Packed, Runs, Names}
use Rattle.payloads.specs.Results.{HasRoom, HasResults, ResultsExact}

-- the bits of a number by a divisor that is a float already
abbrev pub bits_by : Float → ℤ → ℕ
bits_by d x = to_bits binary32 (div binary32 (of_int binary32 x) d)

-- the forms that quotients are written of, those of codecs 9 to 13 among them
abbrev pub is_divided : Form → Bool → Bool
is_divided (Plain One) d = not d
is_divided (Plain Two) d = not d
is_divided (Plain Four) d = false
is_divided (Packed One) d = true
is_divided (Packed Two) d = true
is_divided (Packed Four) d = false
is_divided (Runs r) d = not d
is_divided Names d = false

-- a payload's results have room and are exact, and the divisor is above zero
abbrev pub Divisible : Form → Bool → List ℕ → ℕ → Float → Type 0
Divisible f d s room divisor = HasRoom f s room × ResultsExact f d s × T (positive divisor)

-- the same of n results, without delta
abbrev pub DivisibleAlone : Form → List ℕ → ℕ → ℕ → Float → Type 0
DivisibleAlone f s n room divisor = HasResults f s n × (n ≤ room) × ResultsExact f false s × T (positive divisor)

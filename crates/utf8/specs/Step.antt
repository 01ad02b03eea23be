-- What a step over one character, or over several, promises. Assumes nothing.
use Rattle.std.specs.Prelude.{◌≡◌, Option, Some, None, Bool, false, List, ℕ, ◌<◌, ◌≤◌, length, drop, get_or}
use Rattle.utf8.specs.Check.{due}

-- the bytes from the place that a step reached are whole characters, where k bytes are still due; after a fault nothing is
abbrev pub onward : ℕ → List ℕ → Option ℕ → Bool
onward k bytes (Some next) = due k 0x80 0xbf (drop next bytes)
onward k bytes None = false

-- a step goes forward, and not past the end
abbrev pub Forward : ℕ → ℕ → Option ℕ → Type 0
Forward at end (Some next) = (at < next) × (next ≤ end)
Forward at end None = Unit {0}

-- lead is the byte at a place, from low up to but not high
pub record LeadAt (bytes : List ℕ) (at lead low high : ℕ) : Type 0 where
  pub inside : at < length bytes
  pub same : lead ≡ get_or bytes at 0
  pub least : low ≤ lead
  pub most : lead < high

-- Bytes as the processor loads them, for the code inside. No lemma stands here. Assumes nothing.
use Rattle.std.specs.Prelude.{◌≡◌, List, ℕ, zero, suc, ◌+◌, ◌/◌, ◌%◌, get_or}

-- n is the number of the k bytes from at + i on, the lowest first
abbrev pub Loaded : ℕ → List ℕ → ℕ → ℕ → ℕ → Type 0
Loaded zero s at i n = n ≡ 0
Loaded (suc k) s at i n = (n % 256 ≡ get_or s (at + i) 0) × Loaded k s at (suc i) (n / 256)

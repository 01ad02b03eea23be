-- Packed numbers of a block by one running total: for the code inside `payloads` and `decoding`, whose contracts cite it. No lemma stands here: the laws are in
-- Laws/Blocks.antt. Assumes nothing.
use Rattle.std.specs.Prelude.{◌≡◌, ℕ, zero, suc, ◌+◌, ◌-◌, ◌*◌, ◌/◌, ◌<◌, Bool, true, cond, ◌||◌, List, length, ℤ, pos, slice_set}
use Rattle.numbers.specs.BigEndian.{signed_at}
use Rattle.steps.specs.declared.Size.{Size}
use Rattle.steps.specs.Width.{width_of, size_of, upper, lower}
use Rattle.steps.specs.Delta.{plus_delta}
use Rattle.steps.specs.Packing.{is_limit}
use Rattle.payloads.specs.Limits.{limits_in}

-- how many numbers a block has
abbrev pub count_in : Size → List ℕ → ℕ
count_in z b = length b / size_of z

-- the number at an index of a block
abbrev pub block_number : Size → List ℕ → ℕ → ℤ
block_number z b k = signed_at (width_of z) b (size_of z * k)

-- the total after k numbers, t before the first: it goes on after a limit, and with delta after every number; else it is 0 again
unfoldable pub total_in : Size → Bool → List ℕ → ℤ → ℕ → ℤ
total_in z d b t zero = t
total_in z d b t (suc k) = cond (is_limit (upper z) (lower z) (block_number z b k) || d) (plus_delta (total_in z d b t k) (block_number z b k)) (pos 0)

-- the buffer after k numbers: the total with each number is stored at the place after the results that have ended. A limit ends no result, so
-- that the next total is stored at the same place
unfoldable pub stored_in : Size → Bool → List ℕ → ℤ → ℕ → List ℤ → ℕ → List ℤ
stored_in z d b t o old zero = old
stored_in z d b t o old (suc k) = slice_set (stored_in z d b t o old k) (o + (k - limits_in z b 0 k)) (plus_delta (total_in z d b t k) (block_number z b k))

-- if `said` is true, the block has no limit
abbrev pub NoLimit : Size → List ℕ → Bool → Type 0
NoLimit z b said = said ≡ true → limits_in z b 0 (count_in z b) ≡ 0

-- there is room for each total
abbrev pub HasPlaces : Size → List ℕ → ℕ → ℕ → Type 0
HasPlaces z b o room = (k : ℕ) → k < count_in z b → o + (k - limits_in z b 0 k) < room

-- the totals of a block are stored, and r is the total that the next block begins with
abbrev pub StoredTotals : Size → Bool → List ℕ → ℤ → ℕ → List ℤ → List ℤ → ℤ → Type 0
StoredTotals z d b t o old new r = (new ≡ stored_in z d b t o old (count_in z b)) × (r ≡ total_in z d b t (count_in z b))

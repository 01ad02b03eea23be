-- A payload read in items, each a run of equal values: what the contracts inside this crate and those above it cite. No lemma stands
-- here: the laws are in Laws/. Assumes nothing.
use Rattle.std.specs.Prelude.{Result, Ok, Err, ℕ, ◌+◌, Bool, true, false, cond, List, [], ◌∷◌, drop, ℤ, pos, ◌+ℤ◌, int_lt, unsigned_abs}
use Rattle.refusal.specs.Table.{accepted}
use Rattle.steps.specs.declared.Size.{Size}
use Rattle.steps.specs.declared.Range.TheVariants.{Ascii}
use Rattle.steps.specs.declared.Form.{Form}
use Rattle.steps.specs.declared.Form.TheVariants.{Plain, Packed, Runs, Names}
use Rattle.steps.specs.Width.{size_of, upper, lower}
use Rattle.steps.specs.Numbers.{numbers_in}
use Rattle.steps.specs.Packing.{is_limit, in32}
use Rattle.steps.specs.Payload.{number_size, in_range}
use Rattle.payloads.specs.declared.Item.{Item}
use Rattle.payloads.specs.declared.Item.TheVariants.{Run, Wrong, End}

-- One packed result of the numbers from a place on, and where it ends: limits are added, and then the first number that is no limit. `sum`
-- is the sum so far, and `begun` says that the result has begun. An unfinished result is wrong, and so is a sum outside 32 bits.
unfoldable pub result_of : Size → ℕ → ℤ → Bool → List ℤ → Item
result_of z at sum begun [] = cond begun Wrong End
result_of z at sum begun (x ∷ xs) =
    cond (in32 (sum +ℤ x))
    (cond (is_limit (upper z) (lower z) x) (result_of z (at + size_of z) (sum +ℤ x) true xs) (Run (sum +ℤ x) 1 (at + size_of z)))
    Wrong

-- the first item of the numbers from a place on: a plain number, a packed result, a run, or a byte of a name
unfoldable pub item_of : Form → ℕ → List ℤ → Item
item_of (Plain z) at [] = End
item_of (Plain z) at (x ∷ xs) = Run x 1 (at + size_of z)
item_of (Packed z) at xs = result_of z at (pos 0) false xs
item_of (Runs r) at [] = End
item_of (Runs r) at (v ∷ []) = End
item_of (Runs r) at (v ∷ (n ∷ xs)) = cond (int_lt n (pos 1)) Wrong (cond (in_range r v) (Run v (unsigned_abs n) (at + 8)) Wrong)
item_of Names at [] = End
item_of Names at (x ∷ xs) = cond (in_range Ascii x) (Run x 1 (at + 1)) Wrong

-- the item at a place of a payload
unfoldable pub item_at : Form → List ℕ → ℕ → Item
item_at f s at = item_of f at (numbers_in (number_size f) (drop at s))

-- the refusal that a scan answers, or 0
abbrev pub outcome_refusal : Result Bool ℕ → ℕ
outcome_refusal (Ok e) = accepted
outcome_refusal (Err r) = r

-- A payload put into a buffer: what is said of it, and what the buffer holds afterwards. No lemma stands here: the laws are in
-- Laws/Placed.antt. Assumes nothing.
use Rattle.std.specs.Prelude.{Result, Ok, Err, ℕ, ◌+◌, Bool, cond, List, ◌++◌, length, take, drop, ℤ, nat_le}
use Rattle.steps.specs.declared.Form.{Form}
use Rattle.steps.specs.Payload.{allowed}
use Rattle.columns.specs.Encode.{payload_of}
use Rattle.refusal.specs.Table.{number_not_allowed, buffer_too_small}

-- s with the bytes p in the place of its own from `at` on
unfoldable pub over : List ℕ → ℕ → List ℕ → List ℕ
over s at p = take at s ++ (p ++ drop (at + length p) s)

-- what is said of the payload p, of cells that are allowed or not, for a buffer of n bytes from `at` on
unfoldable pub placed : Bool → List ℕ → ℕ → ℕ → Result ℕ ℕ
placed ok p n at = cond ok (cond (nat_le (at + length p) n) (Ok (length p)) (Err buffer_too_small)) (Err number_not_allowed)

-- what the buffer s holds afterwards
unfoldable pub laid : Bool → List ℕ → List ℕ → ℕ → List ℕ
laid ok p s at = cond ok (cond (nat_le (at + length p) (length s)) (over s at p) s) s

-- what a writer says of the cells xs, in the form f with the parameter m and with delta or without, for a buffer of n bytes from `at` on
abbrev pub placed_cells : Form → ℕ → Bool → List ℤ → ℕ → ℕ → Result ℕ ℕ
placed_cells f m d xs n at = placed (allowed f m xs) (payload_of f d xs) n at

-- what the buffer s holds after these cells
abbrev pub laid_cells : Form → ℕ → Bool → List ℤ → List ℕ → ℕ → List ℕ
laid_cells f m d xs s at = laid (allowed f m xs) (payload_of f d xs) s at

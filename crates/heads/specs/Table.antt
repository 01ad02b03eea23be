-- The tables of lead bytes: the kinds and the head sizes, which the code keeps, and both in one table; and what a kind and a head are by any
-- table of this form. No lemma stands here; that by the table of lead bytes they are those of the lead-byte rule is in Laws/Table.antt. Assumes
-- nothing.
use Rattle.std.specs.Prelude.{cond, Option, None, List, [], ◌∷◌, ℕ, zero, suc, ◌+◌, ◌-◌, ◌*◌, ◌/◌, ◌%◌, ltb, eqb, length, get_or}
use Rattle.numbers.specs.BigEndian.{unsigned_at}
use Rattle.heads.specs.Lead.{kind_of, more_of, held_by}
use Rattle.heads.specs.Head.{some_head}
use Rattle.heads.specs.declared.Kind.{Kind}
use Rattle.heads.specs.declared.Head.{Head}

-- a kind's number in the table of kinds, which only tells kinds apart; `Missing`, which is no lead byte's, never stands in it
abbrev pub kind_cell : Kind → ℕ
kind_cell Kind.Unsigned = 1
kind_cell Kind.Signed = 2
kind_cell Kind.Float = 3
kind_cell Kind.Str = 4
kind_cell Kind.Bin = 5
kind_cell Kind.Array = 6
kind_cell Kind.Map = 7
kind_cell Kind.Outside = 0
kind_cell Kind.Missing = 0

-- the kind of a number in the table
abbrev pub kind_from : ℕ → Kind
kind_from n =
    cond (eqb n 1) Kind.Unsigned
    (cond (eqb n 2) Kind.Signed
    (cond (eqb n 3) Kind.Float
    (cond (eqb n 4) Kind.Str
    (cond (eqb n 5) Kind.Bin (cond (eqb n 6) Kind.Array (cond (eqb n 7) Kind.Map Kind.Outside))))))

-- n values of f, from i on
abbrev pub values_from : (ℕ → ℕ) → ℕ → ℕ → List ℕ
values_from f i zero = []
values_from f i (suc n) = f i ∷ values_from f (suc i) n

-- the table of kinds: the number of the kind of each of the 256 lead bytes
unfoldable pub kind_table : List ℕ
kind_table = values_from (λ b. kind_cell (kind_of b)) 0 256

-- the table of head sizes: a head is its lead byte and the bytes of its number
unfoldable pub size_table : List ℕ
size_table = values_from (λ b. more_of b + 1) 0 256

-- the table of lead bytes: in each row eight times the row of kinds, plus the row of head sizes
unfoldable pub lead_table : List ℕ
lead_table = values_from (λ b. get_or kind_table b 0 * 8 + get_or size_table b 0) 0 256

-- the kind at a place by a table
unfoldable pub kind_by : List ℕ → List ℕ → ℕ → Kind
kind_by table s at = cond (ltb at (length s)) (kind_from (get_or table (get_or s at 0) 0 / 8)) Kind.Missing

-- the number of a head of some size, whose lead byte b is at a place
abbrev pub sized_number : List ℕ → ℕ → ℕ → ℕ → ℕ
sized_number s b at size =
    cond (eqb size 1) (held_by b)
    (cond (eqb size 2) (unsigned_at 1 s (at + 1)) (cond (eqb size 3) (unsigned_at 2 s (at + 1)) (unsigned_at 4 s (at + 1))))

-- a head of some size, whose lead byte b is at a place
abbrev pub sized_head : List ℕ → ℕ → ℕ → ℕ → Option Head
sized_head s b at size = cond (ltb (length s - at) size) None (some_head (sized_number s b at size) (at + size))

-- the head at a place by a table
unfoldable pub head_by : List ℕ → List ℕ → ℕ → Option Head
head_by table s at = cond (ltb at (length s)) (sized_head s (get_or s at 0) at (get_or table (get_or s at 0) 0 % 8)) None

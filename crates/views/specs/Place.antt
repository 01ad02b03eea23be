-- The place and the part of a view by a definition, for any bytes and any name: what the calls answer. The entries are read in their order, with
-- the heads of `heads` and the walk of `messagepack`. In a file that passes as a container no head that is met is cut short, and each value ends.
-- That the place and the part are those of View.antt is `place_of-is` and `part_of-is` of Laws/View.antt. No lemma stands here. Assumes nothing.
use Rattle.std.specs.Prelude.{Result, Ok, Err, Option, Some, None, Bool, cond, ◌||◌, List, [], ℕ, zero, suc, ◌+◌, ◌-◌, eqb, take, drop}
use Rattle.refusal.specs.Table.{accepted, no_such_field}
use Rattle.text.specs.Equal.{equal}
use Rattle.heads.specs.Head.{kind_at, head_at}
use Rattle.heads.specs.declared.Kind.{Kind}
use Rattle.heads.specs.declared.Head.{Head}
use Rattle.messagepack.specs.Limits.{nesting_limit}
use Rattle.messagepack.specs.Walk.{value_at, container_number}
use Rattle.values.specs.Heads.{is_string, is_binary}
use Rattle.values.specs.declared.Part.{Part}

-- a place: where a part starts and how many bytes it has, or the number of the refusal
abbrev pub Place : Type 0
Place = Result Part ℕ

abbrev pub some_part : ℕ → ℕ → Place
some_part start n = Ok (record { at = start; count = n })

-- is a kind that of a string or a binary?
abbrev pub is_text : Kind → Bool
is_text k = is_string k || is_binary k

-- an answer by a head's number and the place after the head; 26 where the head is cut short
abbrev pub after_head : Option Head → (ℕ → ℕ → Place) → Place
after_head (Some h) f = f h.number h.end
after_head None f = Err no_such_field

-- an answer by the place after a value; 26 where the value does not end
abbrev pub after_value : Result ℕ ℕ → (ℕ → Place) → Place
after_value (Ok e) f = f e
after_value (Err n) f = Err no_such_field

-- the body that stands after a head
abbrev pub body_place : Option Head → Place
body_place h = after_head h (λ n p. some_part p n)

-- where the value at a place is shown: in the body of a string or a binary, else in the whole value
abbrev pub value_place : List ℕ → ℕ → Place
value_place file at =
    cond (is_text (kind_at file at)) (body_place (head_at file at)) (after_value (value_at file nesting_limit at) (λ e. some_part at (e - at)))

-- where the first of the n entries from a place on whose key is the name has its value shown; 26 where no key is the name
unfoldable pub entry_place : List ℕ → List ℕ → ℕ → ℕ → Place
entry_place file name zero at = Err no_such_field
entry_place file name (suc n) at =
    after_head (head_at file at)
    (λ m p. cond (equal (take m (drop p file)) name) (value_place file (p + m)) (after_value (value_at file nesting_limit (p + m)) (λ e. entry_place file name n e)))

-- the place of a view: the container's number where that is not 0, else what is found among the entries of the outer map
unfoldable pub place_of : List ℕ → List ℕ → Place
place_of file name =
    cond (eqb (container_number file) accepted) (after_head (head_at file 0) (λ n p. entry_place file name n p)) (Err (container_number file))

-- the number of a place: 0, or the refusal
abbrev pub place_number : Place → ℕ
place_number (Ok part) = accepted
place_number (Err n) = n

-- the bytes at a place; none on refusal
abbrev pub part_at : List ℕ → Place → List ℕ
part_at file (Ok part) = take part.count (drop part.at file)
part_at file (Err n) = []

-- the part of a view: the file's bytes at its place
unfoldable pub part_of : List ℕ → List ℕ → List ℕ
part_of file name = part_at file (place_of file name)

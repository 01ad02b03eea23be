-- The outer keys of a file, by their places, for any bytes: in a file that passes as a container no head that is met is cut short, and each value
-- ends. No lemma stands here: the laws are in Laws/Outer.antt. Assumes nothing.
use Rattle.std.specs.Prelude.{ℕ, zero, suc, ◌+◌, ◌-◌, cond, List, [], ◌∷◌, length, ◌==◌, Result, Ok, Err, Option, Some, None}
use Rattle.refusal.specs.Table.{accepted}
use Rattle.refusal.specs.Outcome.{answered}
use Rattle.refusal.specs.Answer.{leaves}
use Rattle.heads.specs.Head.{head_at}
use Rattle.heads.specs.declared.Head.{Head}
use Rattle.messagepack.specs.Limits.{nesting_limit}
use Rattle.messagepack.specs.Walk.{on_text, key_at, value_at, container_number}

-- the levels that are left for the values of the outer map
abbrev pub outer_levels : ℕ
outer_levels = nesting_limit - 1

-- where a walk ends; 0 where it is refused
abbrev pub walk_end : Result ℕ ℕ → ℕ
walk_end (Ok e) = e
walk_end (Err n) = 0

-- where the entry ends whose key is at a place, with so many levels left for its value, which stands after the key
abbrev pub entry_end : List ℕ → ℕ → ℕ → ℕ
entry_end s levels at = walk_end (on_text (key_at s at) (λ p m. value_at s levels (p + m)))

-- the places of the keys of n entries from a place on, each entry after the one before it
unfoldable pub keys_from : List ℕ → ℕ → ℕ → ℕ → List ℕ
keys_from s levels zero at = []
keys_from s levels (suc n) at = at ∷ keys_from s levels n (entry_end s levels at)

-- the places of the keys of a map by its head
abbrev pub keys_after : List ℕ → Option Head → List ℕ
keys_after s (Some h) = keys_from s outer_levels h.number h.end
keys_after s None = []

-- the places of the outer keys, in the order of the file; none in a file that is no container
unfoldable pub keys_of : List ℕ → List ℕ
keys_of s = cond (container_number s == accepted) (keys_after s (head_at s 0)) []

-- the answer for a buffer with room for so many places: how many keys there are; the container's number, or 25 where they do not fit
unfoldable pub keys_answer : List ℕ → ℕ → Result ℕ ℕ
keys_answer s room = cond (container_number s == accepted) (answered (length (keys_of s)) room) (Err (container_number s))

-- the buffer afterwards: the places at its start and everything beyond unchanged; all unchanged on refusal
unfoldable pub keys_leave : List ℕ → List ℕ → List ℕ
keys_leave s old = leaves (keys_of s) old

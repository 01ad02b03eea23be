-- Heads: a lead byte and the bytes of its number. How one is written, and what stands at a place of a file.
-- No lemma stands here. Assumes nothing.
use Rattle.std.specs.Prelude.{◌≡◌, cond, Option, Some, None, List, ◌∷◌, ℕ, zero, suc, ◌+◌, ◌-◌, ◌^◌, ◌<◌, ltb, length, get_or, take, drop}
use Rattle.numbers.specs.BigEndian.{number_of, bytes_of}
use Rattle.heads.specs.Lead.{kind_of, more_of, held_by}
use Rattle.heads.specs.declared.Kind.{Kind}
use Rattle.heads.specs.declared.Head.{Head}

-- a lead byte b with so many bytes after it holds n
abbrev pub Holds : ℕ → ℕ → ℕ → Type 0
Holds zero b n = n ≡ held_by b
Holds (suc k) b n = n < 256 ^ suc k

-- h is a head of a kind that holds n, in any of the kind's forms
pub record HeadOf (k : Kind) (n : ℕ) (h : List ℕ) : Type 0 where
  pub lead : ℕ
  pub byte : lead < 256
  pub kind : kind_of lead ≡ k
  pub holds : Holds (more_of lead) lead n
  pub is : h ≡ lead ∷ bytes_of (more_of lead) n

-- the kind of the value that starts at a place
unfoldable pub kind_at : List ℕ → ℕ → Kind
kind_at s at = cond (ltb at (length s)) (kind_of (get_or s at 0)) Kind.Missing

-- the number of a head with k bytes after its lead byte b, from the place p after that
abbrev pub head_number : List ℕ → ℕ → ℕ → ℕ → ℕ
head_number s b zero p = held_by b
head_number s b (suc k) p = number_of (take (suc k) (drop p s))

-- a head by its number and the place after it
abbrev pub some_head : ℕ → ℕ → Option Head
some_head n p = Some (record { number = n; end = p })

-- a head with k bytes after its lead byte b, from the place p after that
abbrev pub head_from : List ℕ → ℕ → ℕ → ℕ → Option Head
head_from s b k p = cond (ltb (length s - p) k) None (some_head (head_number s b k p) (p + k))

-- the head at a place; none where it is cut short
unfoldable pub head_at : List ℕ → ℕ → Option Head
head_at s at = cond (ltb at (length s)) (head_from s (get_or s at 0) (more_of (get_or s at 0)) (at + 1)) None

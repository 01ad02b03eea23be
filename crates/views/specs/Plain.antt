-- What stands at a place of a file, by its head: definitions that hold for any bytes and any place. No lemma stands here. Assumes nothing.
use Rattle.std.specs.Prelude.{cond, List, ℕ, ◌+◌, ◌%◌, ℤ, take, drop}
use Rattle.heads.specs.Table.{lead_table}
use Rattle.heads.specs.Head.{kind_at, head_at}
use Rattle.values.specs.Heads.{is_float, on_head, integer_by, text_by}
use Rattle.values.specs.declared.Part.{Part}

-- the number of the head at a place, and the place after the head; 0 where it is cut short
abbrev pub number_at : List ℕ → ℕ → ℕ
number_at file at = on_head 0 (λ n p. n) (head_at file at)

abbrev pub head_end : List ℕ → ℕ → ℕ
head_end file at = on_head 0 (λ n p. p) (head_at file at)

-- the part of the file that is the body of the string or the binary at a place; of another value it is empty
abbrev pub text_part : List ℕ → ℕ → Part
text_part file at = text_by lead_table file at

-- the bytes of that part, and where it ends
abbrev pub text_at : List ℕ → ℕ → List ℕ
text_at file at = take (text_part file at).count (drop (text_part file at).at file)

abbrev pub text_end : List ℕ → ℕ → ℕ
text_end file at = (text_part file at).at + (text_part file at).count

-- the integer at a place; 0 for another value, for one above 2,147,483,647 and for one that is cut short
abbrev pub integer_at : List ℕ → ℕ → ℤ
integer_at file at = integer_by lead_table file at

-- the 32 bits of the float at a place; of another value 0
abbrev pub bits_at : List ℕ → ℕ → ℕ
bits_at file at = on_head 0 (λ n p. cond (is_float (kind_at file at)) (n % 0x1_0000_0000) 0) (head_at file at)

-- The limits of paper 01 that bind the container, each named once. No lemma stands here. Assumes nothing.
use Rattle.std.specs.Prelude.{ℕ}

-- the bytes of a file
abbrev pub file_limit : ℕ
file_limit = 67108864

-- arrays and maps in one another, the outer map included
abbrev pub nesting_limit : ℕ
nesting_limit = 12

-- the entries of a map
abbrev pub entry_limit : ℕ
entry_limit = 256

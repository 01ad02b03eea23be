-- What a call leaves that fills a lent buffer: all of its elements at the buffer's start; all unchanged where they do not fit. What it answers is
-- `answered` of Outcome.antt. No lemma stands here. Assumes nothing.
use Rattle.std.specs.Prelude.{cond, List, ◌++◌, leb, length, drop}

-- the buffer afterwards: the elements at its start and everything beyond unchanged; all unchanged where they do not fit
abbrev pub leaves : {B : Type 0} → List B → List B → List B
leaves elements old = cond (leb (length elements) (length old)) (elements ++ drop (length elements) old) old

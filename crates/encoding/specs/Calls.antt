-- What an encoder answers and leaves in the lent buffer: both functions of what the column encodes to. No lemma stands here: the laws are in
-- Laws/Calls.antt. Assumes nothing.
use Rattle.std.specs.Prelude.{Result, Err, List, ℕ, length}
use Rattle.refusal.specs.Outcome.{answered}
use Rattle.refusal.specs.Answer.{leaves}
use Rattle.columns.specs.Encode.{Encoding, refused, bytes}

-- the answer for a buffer with room for so many bytes: how many were written, or the refusal
abbrev pub encoded_answer : Encoding → ℕ → Result ℕ ℕ
encoded_answer (refused r) room = Err r
encoded_answer (bytes b) room = answered (length b) room

-- the buffer afterwards
abbrev pub encoded_buffer : Encoding → List ℕ → List ℕ
encoded_buffer (refused r) old = old
encoded_buffer (bytes b) old = leaves b old

-- What a decoder of columns answers and leaves in a lent buffer, by what the column decodes to. No lemma stands here: the laws are in
-- Laws/Buffer.antt. Assumes nothing.
use Rattle.std.specs.Prelude.{Result, Err, List, map, ℕ, length, ℤ}
use Rattle.refusal.specs.Outcome.{answered}
use Rattle.refusal.specs.Answer.{leaves}
use Rattle.columns.specs.declared.Kind.{Kind}
use Rattle.columns.specs.Decode.{Decoding, refused, column}

-- the answer for a buffer with room for so many elements: how many were written, or the refusal; 25 where they do not fit
abbrev pub decoded_answer : Decoding → ℕ → Result ℕ ℕ
decoded_answer (refused r) room = Err r
decoded_answer (column k m cells) room = answered (length cells) room

-- the buffer afterwards: the column's cells as elements at its start and everything beyond unchanged; on refusal, all unchanged
abbrev pub decoded_buffer : {B : Type 0} → (Kind → ℕ → ℤ → B) → Decoding → List B → List B
decoded_buffer element (refused r) old = old
decoded_buffer element (column k m cells) old = leaves (map (element k m) cells) old

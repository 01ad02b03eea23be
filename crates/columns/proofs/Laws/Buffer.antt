-- Laws of what a decoder answers and leaves in a lent buffer. Assumes nothing.
use Rattle.std.specs.Prelude.{Result, Ok, Err, ◌≡◌, refl, List, ◌++◌, map, ℕ, ◌<◌, ◌≤◌, length, drop, ℤ, leb, true, false}
use Rattle.std.proofs.lemmas.List.{length-map}
use Rattle.std.proofs.Common.{le-leb}
use Rattle.std.proofs.lemmas.Bool.{lt-leb}
use Rattle.refusal.specs.Table.{buffer_too_small}
use Rattle.columns.specs.declared.Kind.{Kind}
use Rattle.columns.specs.Decode.{Decoding, refused, column}
use Rattle.columns.specs.Buffer.{decoded_answer, decoded_buffer}

-- what a call answers and leaves, by what the column decodes to
module _ {B : Type 0} (element : Kind → ℕ → ℤ → B) (x : Decoding) (old : List B) where
  abbrev pub Answers : Result ℕ ℕ → List B → Type 0
  Answers r new = (r ≡ decoded_answer x (length old)) × (new ≡ decoded_buffer element x old)

  pub answers-refused : (r : ℕ) → x ≡ refused r → Answers (Err r) old
  answers-refused r e = rw e (refl, refl)

  module _ (k : Kind) (m : ℕ) (l : List ℤ) (e : x ≡ column k m l) where
    -- 25
    pub answers-small : length old < length l → Answers (Err buffer_too_small) old
    answers-small h =
        let t : leb (length l) (length old) ≡ false = lt-leb (length l) (length old) h in
        rw (e, length-map l (element k m), t) (refl, refl)

    pub answers-done : length l ≤ length old → (new : List B) → new ≡ map (element k m) l ++ drop (length l) old → Answers (Ok (length l)) new
    answers-done h new w =
        let t : leb (length l) (length old) ≡ true = le-leb (length l) (length old) h in
        rw (e, length-map l (element k m), t) (refl, w)

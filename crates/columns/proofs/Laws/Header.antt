-- Headers written and read, and headers read and written. Assumes nothing.
use Rattle.std.specs.Prelude.{◌≡◌, refl, List, [], ◌++◌, ℕ, ◌+◌, ◌<◌, ◌≤◌, length, drop}
use Rattle.std.proofs.Common.{ap, ◌∙◌, append_assoc, arith, length-append, drop_at}
use Rattle.numbers.specs.BigEndian.{Bytes, bytes_of, unsigned_at}
use Rattle.numbers.specs.Laws.BigEndian.{length-bytes_of, unsigned_at-behind, bytes_of-unsigned_at}
use Rattle.columns.specs.Header.{header_size, header_bytes}

-- Written and read

module _ (c n m : ℕ) (payload : List ℕ) where
  pub length-header : length (header_bytes c n m) ≡ header_size
  length-header = simp (length-append, length-bytes_of) (omega arith)

  pub header-codec : c < 4294967296 → unsigned_at 4 (header_bytes c n m ++ payload) 0 ≡ c
  header-codec h = simp append_assoc (unsigned_at-behind 4 c 0 [] (bytes_of 4 n ++ (bytes_of 4 m ++ payload)) refl h)

  pub header-length : n < 4294967296 → unsigned_at 4 (header_bytes c n m ++ payload) 4 ≡ n
  header-length h = simp append_assoc (unsigned_at-behind 4 n 4 (bytes_of 4 c) (bytes_of 4 m ++ payload) (length-bytes_of 4 c) h)

  pub header-parameter : m < 4294967296 → unsigned_at 4 (header_bytes c n m ++ payload) 8 ≡ m
  header-parameter h =
      let l : length (bytes_of 4 c ++ bytes_of 4 n) ≡ 8 = simp (length-append, length-bytes_of) (omega arith) in
      let e = unsigned_at-behind 4 m 8 (bytes_of 4 c ++ bytes_of 4 n) payload l h in
      simp append_assoc (simp append_assoc at e)

  pub drop-header : drop header_size (header_bytes c n m ++ payload) ≡ payload
  drop-header = drop_at (header_bytes c n m) payload header_size length-header

  pub length-column : length (header_bytes c n m ++ payload) ≡ header_size + length payload
  length-column = length-append (header_bytes c n m) payload ∙ rw length-header

-- Read and written

pub header_read : (s : List ℕ) → Bytes s → header_size ≤ length s → header_bytes (unsigned_at 4 s 0) (unsigned_at 4 s 4) (unsigned_at 4 s 8) ++ drop header_size s ≡ s
header_read s b h =
    simp append_assoc
    (ap (λ (l : List ℕ). bytes_of 4 (unsigned_at 4 s 0) ++ (bytes_of 4 (unsigned_at 4 s 4) ++ l)) (bytes_of-unsigned_at s b 4 8 (omega arith))
    ∙ ap (λ (l : List ℕ). bytes_of 4 (unsigned_at 4 s 0) ++ l) (bytes_of-unsigned_at s b 4 4 (omega arith)) ∙ bytes_of-unsigned_at s b 4 0 (omega arith))

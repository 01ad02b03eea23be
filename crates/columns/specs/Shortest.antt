-- The shortest payload of a column (paper 02, request 9), as one statement: of all payloads that decode to a column by one codec the writer's has
-- the fewest bytes, and no other has as few. The other payload may be any bytes that decode: runs that are cut in two, or packed results in which
-- both limits of the width stand. Both payloads are of the same codec; nothing is said of a column in two codecs, or of the file around a column.
-- That the encoder's header is right too is demand 2. No lemma stands here: that the statement holds is `no-shorter` of Laws/Shortest.antt. Assumes
-- nothing.
use Rattle.std.specs.Prelude.{◌≡◌, false, List, ◌++◌, ℕ, ◌≤◌, ◌<◌, length, ℤ, pos}
use Rattle.std.proofs.Math.Option.{some}
use Rattle.numbers.specs.BigEndian.{Bytes}
use Rattle.steps.specs.Fits.{Every, Between}
use Rattle.steps.specs.Packing.{unpack_from, pack_all}
use Rattle.columns.specs.declared.Kind.{Kind}
use Rattle.columns.specs.declared.Kind.TheVariants as kind
use Rattle.columns.specs.declared.Wanted.TheVariants.{Only}
use Rattle.columns.specs.Header.{header_bytes}
use Rattle.columns.specs.Decode.{column, decode}
use Rattle.columns.specs.Encode.{bytes, encode}
use Rattle.columns.specs.CanHold.{CanHold}

-- the payload gives the cells xs by the codec c: it decodes to them behind some header, with the length n and the parameter m; v is the parameter
-- as decoding gives it
abbrev pub Gives : Kind → ℕ → List ℤ → List ℕ → Type 0
Gives k c xs payload = (n : ℕ) × (m : ℕ) × (v : ℕ) × (decode (Only k) (header_bytes c n m ++ payload) ≡ column k v xs)

-- the payload is the writer's for the cells xs by the codec c with the parameter m: the encoder puts it behind its header, with the length n and the
-- parameter v
abbrev pub Written : Kind → ℕ → ℕ → List ℤ → List ℕ → Type 0
Written k c m xs payload = (n : ℕ) × (v : ℕ) × (encode (Only k) c m xs ≡ bytes (header_bytes c n v ++ payload))

-- by the codec c of the kind k no payload is shorter than the writer's
pub record Shortest (k : Kind) (c : ℕ) : Type 0 where
  -- the writer has a payload for every column that the codec can hold, and it gives that column
  pub held : (m : ℕ) (xs : List ℤ) → CanHold k c m xs → (own : List ℕ) × Written k c m xs own × Gives k c xs own
  -- no payload that gives the column has fewer bytes
  pub fewest : (m : ℕ) (xs : List ℤ) (own payload : List ℕ) → Written k c m xs own → Gives k c xs payload → length own ≤ length payload
  -- and of the payloads that are bytes none but the writer's has as few
  pub only : (m : ℕ) (xs : List ℤ) (own payload : List ℕ) → Written k c m xs own → Gives k c xs payload → Bytes payload → length own ≡ length payload → own ≡ payload

-- what is claimed of packing by the limits p and -q of a width, for numbers ns that unpack to xs; the conditions stand at `every-width` below
pub record ShortestPacked (p q : ℕ) (ns xs : List ℤ) : Type 0 where
  -- the writer's numbers unpack to xs too
  pub held : unpack_from p q (pos 0) false (pack_all p q xs) ≡ some xs
  -- they are no more
  pub fewest : length (pack_all p q xs) ≤ length ns
  -- and if they are as many, they are the same
  pub only : length (pack_all p q xs) ≡ length ns → pack_all p q xs ≡ ns

-- the answer to the request: codecs 7, 14 and 15 by name, then every codec, then every width
pub record NoShorter : Type 0 where
  -- runs
  pub codec-7 : Shortest kind.Int32 7
  -- packing of 16 bits, and of 8
  pub codec-14 : Shortest kind.Int32 14
  pub codec-15 : Shortest kind.Int32 15
  -- each codec of each kind, with delta or without. Plain numbers (codecs 1 to 4 and 11) and names (5) have one payload only. Where c is no codec of
  -- the kind k nothing is written, and nothing is claimed.
  pub every-codec : (k : Kind) (c : ℕ) → Shortest k c
  -- packing by any limits, one above and one below 0, for numbers within them
  pub every-width : (p q : ℕ) (ns xs : List ℤ) → 0 < p → 0 < q → Every (Between p q) ns → unpack_from p q (pos 0) false ns ≡ some xs → ShortestPacked p q ns xs

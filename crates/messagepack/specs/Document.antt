-- Documents, and the bytes that are their writings (paper 01, "Lead bytes"). No reader, no place and no lemma stands here.
-- Assumes nothing.
use Rattle.std.specs.Prelude.{◌≡◌, ℕ, zero, suc, ◌-◌, ◌*◌, ◌^◌, cond, ◌⊎◌, List, [], ◌++◌, length, ℤ, pos, negsuc, nat_lt}
use Rattle.heads.specs.Lead.{more_of}
use Rattle.heads.specs.Head.{HeadOf}
use Rattle.heads.specs.declared.Kind.{Kind}

-- a document: an integer, a float by its bits, a string or a binary by its bytes, an array of documents, or a map of keys and documents.
-- Arrays and maps keep their order. What it must keep besides is `Keeps` of Rules.antt; that strings hold bytes and floats 32 bits follows from the heads and
-- the bytes of a file that is its writing
mutual
  pub data Document : Type 0 where
    integer : ℤ → Document
    float : ℕ → Document
    string : List ℕ → Document
    binary : List ℕ → Document
    array : Documents → Document
    map : Entries → Document

  pub data Documents : Type 0 where
    none : Documents
    item : Document → Documents → Documents

  pub data Entries : Type 0 where
    empty : Entries
    entry : List ℕ → Document → Entries → Entries

-- how many values an array has
unfoldable pub count : Documents → ℕ
count none = zero
count (item d ds) = suc (count ds)

-- how many entries a map has
unfoldable pub size : Entries → ℕ
size empty = zero
size (entry k d es) = suc (size es)

-- the integer of a signed head that holds n: -32 to -1 in a lead byte e0 to ff itself, two's complement in the k bytes after any other
abbrev pub signed_value : ℕ → ℕ → ℤ
signed_value zero n = negsuc (31 - n)
signed_value (suc k) n = cond (nat_lt n (2 ^ (8 * suc k - 1))) (pos n) (negsuc (2 ^ (8 * suc k) - 1 - n))

-- an integer by an unsigned head
pub record UnsignedOf (v : ℤ) (w : List ℕ) : Type 0 where
  pub n : ℕ
  pub head : HeadOf Kind.Unsigned n w
  pub is : v ≡ pos n

-- an integer by a signed head
pub record SignedOf (v : ℤ) (w : List ℕ) : Type 0 where
  pub n : ℕ
  pub head : HeadOf Kind.Signed n w
  pub is : v ≡ signed_value (more_of head.lead) n

-- a string or a binary: a head of that kind that holds the length, and the bytes t
pub record TextOf (k : Kind) (t : List ℕ) (w : List ℕ) : Type 0 where
  pub h : List ℕ
  pub head : HeadOf k (length t) h
  pub is : w ≡ h ++ t

-- w is a writing of a document: heads and bodies one after another and nothing else, where a head may have any form of its kind
unfoldable mutual
  pub Writes : Document → List ℕ → Type 0
  Writes (integer v) w = UnsignedOf v w ⊎ SignedOf v w
  Writes (float bits) w = HeadOf Kind.Float bits w
  Writes (string t) w = TextOf Kind.Str t w
  Writes (binary t) w = TextOf Kind.Bin t w
  Writes (array ds) w = record { h : List ℕ; v : List ℕ; head : HeadOf Kind.Array (count ds) h; body : WritesAll ds v; is : w ≡ h ++ v }
  Writes (map es) w = record { h : List ℕ; v : List ℕ; head : HeadOf Kind.Map (size es) h; body : WritesEntries es v; is : w ≡ h ++ v }

  -- the values of an array, one after another
  pub WritesAll : Documents → List ℕ → Type 0
  WritesAll none w = w ≡ []
  WritesAll (item d ds) w = record { u : List ℕ; v : List ℕ; first : Writes d u; rest : WritesAll ds v; is : w ≡ u ++ v }

  -- the entries of a map, one after another, each a key and its value
  pub WritesEntries : Entries → List ℕ → Type 0
  WritesEntries empty w = w ≡ []
  WritesEntries (entry k d es) w = record { a : List ℕ; u : List ℕ; v : List ℕ; key : TextOf Kind.Str k a; first : Writes d u; rest : WritesEntries es v; is : w ≡ a ++ (u ++ v) }

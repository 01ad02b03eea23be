-- Documents that stand at places of a file: what the functions that take a place promise, for whatever document stands there. No file's
-- acceptance is defined by it. No lemma stands here: the laws are in Laws/Places.antt. Assumes nothing.
use Rattle.std.specs.Prelude.{◌≡◌, cond, List, ℕ, ◌+◌, ◌-◌, ◌<◌, eqb, leb, ltb, ℤ, pos, negsuc, take, drop}
use Rattle.std.proofs.Math.Option.{Option, some, none as nothing}
use Rattle.numbers.specs.Ranges.{integer_limit}
use Rattle.heads.specs.Span.{Span}
use Rattle.messagepack.specs.Document.{Document, Documents, Entries, integer, float, string, binary, array, map, Writes, WritesAll, WritesEntries, count, size}
use Rattle.messagepack.specs.Rules.{Keeps, KeepsAll, KeepsEntries, Distinct}
use Rattle.values.specs.Parts.{text_of, items_of, entries_of}
use Rattle.values.specs.declared.Part.{Part}

-- a document that keeps the rules stands in s from p up to e
pub record At (s : List ℕ) (p : ℕ) (x : Document) (e : ℕ) : Type 0 where
  pub w : List ℕ
  pub writes : Writes x w
  pub span : Span s p e w
  pub keeps : Keeps x

-- an array's values, one after another
pub record AtAll (s : List ℕ) (p : ℕ) (ds : Documents) (e : ℕ) : Type 0 where
  pub w : List ℕ
  pub writes : WritesAll ds w
  pub span : Span s p e w
  pub keeps : KeepsAll ds

-- a map's entries, one after another
pub record AtEntries (s : List ℕ) (p : ℕ) (es : Entries) (e : ℕ) : Type 0 where
  pub w : List ℕ
  pub writes : WritesEntries es w
  pub span : Span s p e w
  pub keeps : KeepsEntries es
  pub distinct : Distinct es

-- a place says which document stands there; 0, where no value stands, says that there is none
pub data PlaceSays (s : List ℕ) : ℕ → Option Document → Type 0 where
  gone : PlaceSays s 0 nothing
  there : {p e : ℕ} {x : Document} → 0 < p → At s p x e → PlaceSays s p (some x)

-- the last number that a signed head of a size holds, and the first that stands for a negative integer
abbrev pub last_of : ℕ → ℕ
last_of size = cond (eqb size 1) 31 (cond (eqb size 2) 255 (cond (eqb size 3) 65535 4294967295))

abbrev pub half_of : ℕ → ℕ
half_of size = cond (eqb size 1) 0 (cond (eqb size 2) 128 (cond (eqb size 3) 32768 2147483648))

-- the integer of an unsigned head that holds n, 0 where it is above the limit; and that of a signed head of a size
abbrev pub unsigned_by : ℕ → ℤ
unsigned_by n = cond (leb n integer_limit) (pos n) (pos 0)

abbrev pub signed_by : ℕ → ℕ → ℤ
signed_by n size = cond (ltb n (half_of size)) (pos n) (negsuc (last_of size - n))

-- a string or a binary ends with its body
abbrev pub EndsWith : Document → ℕ → Part → Type 0
EndsWith (string t) e r = e ≡ r.at + r.count
EndsWith (binary t) e r = e ≡ r.at + r.count
EndsWith (integer v) e r = Unit {0}
EndsWith (float bits) e r = Unit {0}
EndsWith (array ds) e r = Unit {0}
EndsWith (map es) e r = Unit {0}

-- a part of s is the body of a string or a binary; of another document it is empty
pub record TextAt (s : List ℕ) (x : Document) (e : ℕ) (r : Part) : Type 0 where
  pub is : take r.count (drop r.at s) ≡ text_of x
  pub ends : EndsWith x e r

-- a part is the values of an array: how many, and where the first stands
pub record ItemsAt (s : List ℕ) (x : Document) (r : Part) : Type 0 where
  pub counts : count (items_of x) ≡ r.count
  pub end : ℕ
  pub all : AtAll s r.at (items_of x) end

-- a part is the entries of a map: how many, and where the first stands
pub record EntriesAt (s : List ℕ) (x : Document) (r : Part) : Type 0 where
  pub counts : size (entries_of x) ≡ r.count
  pub end : ℕ
  pub all : AtEntries s r.at (entries_of x) end

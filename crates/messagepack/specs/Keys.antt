-- The tables of keys that the walk lends down: a row for each key of each map that is open, as many for each level as a map has entries at most.
-- Contracts of functions inside this crate cite these; no public contract does. No lemma stands here. Assumes nothing.
use Rattle.std.specs.Prelude.{◌≡◌, ℕ, zero, suc, ◌+◌, ◌-◌, ◌*◌, ◌%◌, ◌<◌, ◌≤◌, true, false, cond, List, [], ◌∷◌, length, take, drop, nat_le, slice_index, slice_index_or, slice_set, Result, Ok, Err}
use Rattle.refusal.specs.Table.{key_repeated}
use Rattle.numbers.specs.BigEndian.{unsigned_at}
use Rattle.heads.specs.Head.{kind_at, head_at, some_head}
use Rattle.heads.specs.declared.Kind.{Kind}
use Rattle.messagepack.specs.Limits.{file_limit, nesting_limit, entry_limit}
use Rattle.messagepack.specs.Walk.{key_at, among, many_at, entries_at, value_at, ok_text}
use Rattle.messagepack.specs.Outer.{keys_from}
use Rattle.messagepack.specs.declared.Text.{Text}

-- the rows of the largest map for each level
abbrev pub table_length : ℕ
table_length = nesting_limit * entry_limit

-- the number of a key's first four bytes and its last four; of its last two where it has fewer, and 0 where it has fewer than that
abbrev pub ends_of : List ℕ → ℕ
ends_of k = cond (nat_le 4 (length k)) ((unsigned_at 4 k 0 + unsigned_at 4 k (length k - 4)) % 4294967296) (unsigned_at 2 k (length k - 2))

-- a key's print: a number of its length and its first and last bytes, which equal keys share
unfoldable pub print_of : List ℕ → ℕ
print_of k = (length k % 65536 * 65536 + ends_of k) % 4294967296

-- the bytes of a key
abbrev pub key_bytes : List ℕ → Result Text ℕ → List ℕ
key_bytes s (Ok t) = take t.count (drop t.at s)
key_bytes s (Err e) = []

-- the bytes of the key at a place
abbrev pub key_here : List ℕ → ℕ → List ℕ
key_here s at = key_bytes s (key_at s at)

-- the keys in the first n rows, the last first: each row has the place where its key starts
unfoldable pub keys_of : List ℕ → List ℕ → ℕ → List (List ℕ)
keys_of s starts zero = []
keys_of s starts (suc n) = key_here s (slice_index starts n) ∷ keys_of s starts n

-- the keys in the rows from base up to end
abbrev pub keys_in : List ℕ → List ℕ → ℕ → ℕ → List (List ℕ)
keys_in s starts base end = keys_of s (drop base starts) (end - base)

-- a key stands at a place
pub record KeyThere (s : List ℕ) (at : ℕ) : Type 0 where
  pub a : ℕ
  pub m : ℕ
  pub is : key_at s at ≡ ok_text a m

-- a row holds the place of a key, and its print
pub record RowHolds (s starts prints : List ℕ) (i : ℕ) : Type 0 where
  pub key : KeyThere s (slice_index starts i)
  pub print : slice_index_or prints i 0 ≡ print_of (key_here s (slice_index starts i))

-- each of the first n rows holds the place of a key, and its print
unfoldable pub Stored : List ℕ → List ℕ → List ℕ → ℕ → Type 0
Stored s starts prints n = (i : ℕ) → i < n → RowHolds s starts prints i

-- a walk with so many levels left may begin
pub record Free (s : List ℕ) (depth : ℕ) (starts prints : List ℕ) : Type 0 where
  pub small : length s ≤ file_limit
  pub levels : depth ≤ nesting_limit
  pub starts-long : length starts ≡ table_length
  pub prints-long : length prints ≡ table_length

-- the rows above those of the levels left are as they were
pub record Kept (depth : ℕ) (old new : List ℕ) : Type 0 where
  pub long : length new ≡ table_length
  pub same : drop (depth * entry_limit) new ≡ drop (depth * entry_limit) old

-- a walk's answer, with the tables before and after
pub record KeysWalked (expected : Result ℕ ℕ) (depth : ℕ) (starts prints : List ℕ) (r : Result ℕ ℕ) (starts' prints' : List ℕ) : Type 0 where
  pub answer : r ≡ expected
  pub starts-kept : Kept depth starts starts'
  pub prints-kept : Kept depth prints prints'

-- the walk of the value at a place, of n values, and of n entries, each with so many levels left
abbrev pub ValueWalked : List ℕ → ℕ → ℕ → List ℕ → List ℕ → Result ℕ ℕ → List ℕ → List ℕ → Type 0
ValueWalked s depth at starts prints r starts' prints' = KeysWalked (value_at s depth at) depth starts prints r starts' prints'

abbrev pub ItemsWalked : List ℕ → ℕ → ℕ → ℕ → List ℕ → List ℕ → Result ℕ ℕ → List ℕ → List ℕ → Type 0
ItemsWalked s depth n at starts prints r starts' prints' = KeysWalked (many_at (value_at s depth) n at) depth starts prints r starts' prints'

abbrev pub EntriesWalked : List ℕ → ℕ → ℕ → ℕ → List ℕ → List ℕ → Result ℕ ℕ → List ℕ → List ℕ → Type 0
EntriesWalked s depth n at starts prints r starts' prints' = KeysWalked (entries_at s (value_at s depth) n at) (depth + 1) starts prints r starts' prints'

-- a map of n entries has been walked with so many levels left for its values: the rows of its level have the places of its keys
pub record MapNoted (s : List ℕ) (levels n at : ℕ) (starts : List ℕ) : Type 0 where
  pub few : n ≤ entry_limit
  pub places : take n (drop (levels * entry_limit) starts) ≡ keys_from s levels n at

-- if n entries end, the rows of their level have the places of their keys
pub record EntriesNoted (s : List ℕ) (levels n at : ℕ) (r : Result ℕ ℕ) (starts : List ℕ) : Type 0 where
  pub says : (e : ℕ) → r ≡ Ok e → MapNoted s levels n at starts

-- if the value at a place is a map and ends, the rows of its level have the places of its keys
pub record ValueNoted (s : List ℕ) (depth at : ℕ) (r : Result ℕ ℕ) (starts : List ℕ) : Type 0 where
  pub says : (n p e : ℕ) → kind_at s at ≡ Kind.Map → head_at s at ≡ some_head n p → r ≡ Ok e → MapNoted s (depth - 1) n p starts

-- the rows from base up to end hold keys, and there is a row after them
pub record Rows (s : List ℕ) (base end : ℕ) (starts prints : List ℕ) : Type 0 where
  pub small : length s ≤ file_limit
  pub order : base ≤ end
  pub room : end < table_length
  pub starts-long : length starts ≡ table_length
  pub prints-long : length prints ≡ table_length
  pub stored : Stored s (drop base starts) (drop base prints) (end - base)

-- the key at a place is sought among them
pub record Sought (s : List ℕ) (base end : ℕ) (starts prints : List ℕ) (at print : ℕ) : Type 0 where
  pub rows : Rows s base end starts prints
  pub key : KeyThere s at
  pub is : print ≡ print_of (key_here s at)

-- what comes of the key at a place: a refusal, with the tables as they were; or its end, and a row more
pub data KeyNoted (s : List ℕ) (at base end : ℕ) (starts prints : List ℕ) : Result ℕ ℕ → List ℕ → List ℕ → Type 0 where
  refused : {e : ℕ} → key_at s at ≡ Err e → KeyNoted s at base end starts prints (Err e) starts prints
  repeated : {a m : ℕ} → key_at s at ≡ ok_text a m → among (key_here s at) (keys_in s starts base end) ≡ true → KeyNoted s at base end starts prints (Err key_repeated) starts prints
  noted : {a m print : ℕ} → key_at s at ≡ ok_text a m → Sought s base end starts prints at print → among (key_here s at) (keys_in s starts base end) ≡ false → KeyNoted s at base end starts prints (Ok (a + m)) (slice_set starts end at) (slice_set prints end print)

-- Values that hold no others, and what the quick looks at them say: contracts of functions inside this crate cite these. No lemma stands here. Assumes nothing.
use Rattle.std.specs.Prelude.{◌≡◌, ℕ, ◌≤◌, List, Result, Ok, Err, Option, Some, None}
use Rattle.refusal.specs.Table.{cut_short, lead_byte_unknown}
use Rattle.heads.specs.Head.{kind_at}
use Rattle.heads.specs.declared.Kind.{Kind}
use Rattle.messagepack.specs.Walk.{text_at, many_at, integer_at, plain_at, binary_at, string_at, value_at, ok_text}
use Rattle.messagepack.specs.declared.Leaf.{Leaf}
use Rattle.messagepack.specs.declared.Text.{Text}

-- a walk's answer as a leaf's
abbrev pub leaf_of : Result ℕ ℕ → Result Leaf ℕ
leaf_of (Ok p) = Ok (Leaf.End p)
leaf_of (Err n) = Err n

-- a value that holds no others, by its kind; or that it holds others
abbrev pub leaf_by_kind : List ℕ → ℕ → Kind → Result Leaf ℕ
leaf_by_kind s at Kind.Missing = Err cut_short
leaf_by_kind s at Kind.Outside = Err lead_byte_unknown
leaf_by_kind s at Kind.Unsigned = leaf_of (integer_at s at)
leaf_by_kind s at Kind.Signed = leaf_of (plain_at s at)
leaf_by_kind s at Kind.Float = leaf_of (plain_at s at)
leaf_by_kind s at Kind.Bin = leaf_of (binary_at s at)
leaf_by_kind s at Kind.Str = leaf_of (string_at s at)
leaf_by_kind s at Kind.Array = Ok Leaf.Array
leaf_by_kind s at Kind.Map = Ok Leaf.Map

-- the value at a place if it holds no others
unfoldable pub leaf_at : List ℕ → ℕ → Result Leaf ℕ
leaf_at s at = leaf_by_kind s at (kind_at s at)

-- a short string that is found
abbrev pub some_text : ℕ → ℕ → Option Text
some_text p n = Some (record { at = p; count = n })

-- an end that is found is the value's, with any levels left
pub data QuickSays (s : List ℕ) (at : ℕ) : Option ℕ → Type 0 where
  ends : {p : ℕ} → ((d : ℕ) → value_at s d at ≡ Ok p) → QuickSays s at (Some p)
  other : QuickSays s at None

-- a short string that is found is the string there
pub data ShortSays (s : List ℕ) (at : ℕ) : Option Text → Type 0 where
  found : {p n : ℕ} → kind_at s at ≡ Kind.Str → text_at s at ≡ ok_text p n → ShortSays s at (some_text p n)
  another : ShortSays s at None

-- of n values from a place on, those before another place end there, and so many are left
pub record RunSays (s : List ℕ) (at n p left : ℕ) : Type 0 where
  pub fewer : left ≤ n
  pub same : (d : ℕ) → many_at (value_at s d) n at ≡ many_at (value_at s d) left p

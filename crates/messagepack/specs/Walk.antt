-- Refusals 1 to 11 in the order of paper 01: the bytes are walked from the first on, and the first fault decides.
-- No lemma stands here; that it gives 0 exactly for a `Container` is `container-exactly` of Laws/Container.antt. Assumes nothing.
use Rattle.std.specs.Prelude.{ℕ, zero, suc, ◌+◌, Bool, false, cond, ◌||◌, List, [], ◌∷◌, length, take, drop, ◌==◌, nat_le, Result, Ok, Err, Option, Some, None}
use Rattle.refusal.specs.Table.{accepted, file_over_limit, cut_short, lead_byte_unknown, unsigned_too_large, string_not_utf8, nested_too_deep, too_many_entries, key_not_string, key_repeated, outer_not_map, bytes_after}
use Rattle.numbers.specs.Ranges.{integer_limit}
use Rattle.utf8.specs.Check.{is_utf8}
use Rattle.text.specs.Equal.{equal}
use Rattle.heads.specs.Head.{kind_at, head_at}
use Rattle.heads.specs.declared.Kind.{Kind}
use Rattle.heads.specs.declared.Head.{Head}
use Rattle.messagepack.specs.Limits.{file_limit, nesting_limit, entry_limit}
use Rattle.messagepack.specs.declared.Text.{Text}

-- a head, or it is cut
abbrev pub on_head : Option Head → (ℕ → ℕ → Result ℕ ℕ) → Result ℕ ℕ
on_head (Some h) f = f h.number h.end
on_head None f = Err cut_short

-- a value that ends, and what follows it
abbrev pub on_walk : Result ℕ ℕ → (ℕ → Result ℕ ℕ) → Result ℕ ℕ
on_walk (Ok e) f = f e
on_walk (Err n) f = Err n

-- a string by its first place and its length, where it is found
abbrev pub ok_text : ℕ → ℕ → Result Text ℕ
ok_text p n = Ok (record { at = p; count = n })

-- a string's start and length, and what follows
abbrev pub on_text : Result Text ℕ → (ℕ → ℕ → Result ℕ ℕ) → Result ℕ ℕ
on_text (Ok t) f = f t.at t.count
on_text (Err e) f = Err e

-- the n bytes from p on
unfoldable pub body_at : List ℕ → ℕ → ℕ → Result ℕ ℕ
body_at s n p = cond (nat_le (p + n) (length s)) (Ok (p + n)) (Err cut_short)

-- a string's body, and UTF-8 last
abbrev pub text_body : List ℕ → ℕ → ℕ → Result ℕ ℕ → Result Text ℕ
text_body s n p (Ok e) = cond (is_utf8 (take n (drop p s))) (ok_text p n) (Err string_not_utf8)
text_body s n p (Err e) = Err e

-- a string's head, and then its body
abbrev pub text_head : List ℕ → Option Head → Result Text ℕ
text_head s (Some h) = text_body s h.number h.end (body_at s h.number h.end)
text_head s None = Err cut_short

-- the string whose head is at a place
unfoldable pub text_at : List ℕ → ℕ → Result Text ℕ
text_at s at = text_head s (head_at s at)

-- a key is a string
abbrev pub key_of_kind : List ℕ → ℕ → Kind → Result Text ℕ
key_of_kind s at Kind.Missing = Err cut_short
key_of_kind s at Kind.Outside = Err lead_byte_unknown
key_of_kind s at Kind.Str = text_at s at
key_of_kind s at Kind.Unsigned = Err key_not_string
key_of_kind s at Kind.Signed = Err key_not_string
key_of_kind s at Kind.Float = Err key_not_string
key_of_kind s at Kind.Bin = Err key_not_string
key_of_kind s at Kind.Array = Err key_not_string
key_of_kind s at Kind.Map = Err key_not_string

-- the key at a place
unfoldable pub key_at : List ℕ → ℕ → Result Text ℕ
key_at s at = key_of_kind s at (kind_at s at)

-- is k among the keys?
unfoldable pub among : List ℕ → List (List ℕ) → Bool
among k [] = false
among k (l ∷ ls) = equal k l || among k ls

-- n values from a place on, each by f
unfoldable pub many_at : (ℕ → Result ℕ ℕ) → ℕ → ℕ → Result ℕ ℕ
many_at f zero at = Ok at
many_at f (suc n) at = on_walk (f at) (λ e. many_at f n e)

-- n entries from a place on, after those with the keys ks: a key that is among them is repeated
unfoldable pub entries_from : List ℕ → (ℕ → Result ℕ ℕ) → ℕ → List (List ℕ) → ℕ → Result ℕ ℕ
entries_from s f zero ks at = Ok at
entries_from s f (suc n) ks at =
    on_text (key_at s at)
    (λ p m. cond (among (take m (drop p s)) ks) (Err key_repeated) (on_walk (f (p + m)) (λ e. entries_from s f n (take m (drop p s) ∷ ks) e)))

-- the n entries of a map
unfoldable pub entries_at : List ℕ → (ℕ → Result ℕ ℕ) → ℕ → ℕ → Result ℕ ℕ
entries_at s f n at = cond (nat_le n entry_limit) (entries_from s f n [] at) (Err too_many_entries)

-- an integer by an unsigned head
abbrev pub integer_at : List ℕ → ℕ → Result ℕ ℕ
integer_at s at = on_head (head_at s at) (λ n p. cond (nat_le n integer_limit) (Ok p) (Err unsigned_too_large))

-- an integer by a signed head, or a float
abbrev pub plain_at : List ℕ → ℕ → Result ℕ ℕ
plain_at s at = on_head (head_at s at) (λ n p. Ok p)

-- a binary's head and body
abbrev pub binary_at : List ℕ → ℕ → Result ℕ ℕ
binary_at s at = on_head (head_at s at) (λ n p. body_at s n p)

-- a string
abbrev pub string_at : List ℕ → ℕ → Result ℕ ℕ
string_at s at = on_text (text_at s at) (λ p n. Ok (p + n))

-- a value by its kind: fa goes on with an array's head, fm with a map's
abbrev pub by_kind : List ℕ → ℕ → (Option Head → Result ℕ ℕ) → (Option Head → Result ℕ ℕ) → Kind → Result ℕ ℕ
by_kind s at fa fm Kind.Missing = Err cut_short
by_kind s at fa fm Kind.Outside = Err lead_byte_unknown
by_kind s at fa fm Kind.Unsigned = integer_at s at
by_kind s at fa fm Kind.Signed = plain_at s at
by_kind s at fa fm Kind.Float = plain_at s at
by_kind s at fa fm Kind.Bin = binary_at s at
by_kind s at fa fm Kind.Str = string_at s at
by_kind s at fa fm Kind.Array = fa (head_at s at)
by_kind s at fa fm Kind.Map = fm (head_at s at)

-- the value at a place, with d more levels of arrays and maps
unfoldable pub value_at : List ℕ → ℕ → ℕ → Result ℕ ℕ
value_at s zero at = by_kind s at (λ h. Err nested_too_deep) (λ h. Err nested_too_deep) (kind_at s at)
value_at s (suc d) at =
    by_kind s at (λ h. on_head h (many_at (value_at s d))) (λ h. on_head h (entries_at s (value_at s d))) (kind_at s at)

-- after the outer map nothing follows
abbrev pub ended : List ℕ → Result ℕ ℕ → ℕ
ended s (Ok p) = cond (p == length s) accepted bytes_after
ended s (Err n) = n

-- the outer value is a map
abbrev pub outer : List ℕ → Kind → ℕ
outer s Kind.Missing = cut_short
outer s Kind.Outside = lead_byte_unknown
outer s Kind.Map = ended s (value_at s nesting_limit 0)
outer s Kind.Unsigned = outer_not_map
outer s Kind.Signed = outer_not_map
outer s Kind.Float = outer_not_map
outer s Kind.Str = outer_not_map
outer s Kind.Bin = outer_not_map
outer s Kind.Array = outer_not_map

-- the container's number of a file: 1 to 11, or 0
unfoldable pub container_number : List ℕ → ℕ
container_number s = cond (nat_le (length s) file_limit) (outer s (kind_at s 0)) file_over_limit

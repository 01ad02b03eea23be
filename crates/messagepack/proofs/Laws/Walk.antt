-- The walk's definition as equations, in the form in which proofs meet it.
-- Assumes nothing.
use Rattle.std.specs.Prelude.{◌≡◌, ◌⊎◌, ℕ, zero, suc, ◌+◌, ◌-◌, ◌<◌, ◌≤◌, Bool, true, false, cond, List, [], ◌∷◌, length, take, drop, nat_le, Result, Ok, Err, Option, None, Some}
use Rattle.std.proofs.Math.Path.{refl, ap}
use Rattle.std.proofs.Common.{◌∙◌, inl, inr, not-suc-le-zero, sub-one, arith, leb-true, le-leb}
use Rattle.std.proofs.lemmas.Bool.{lt-leb}
use Rattle.refusal.specs.Table.{file_over_limit, cut_short, lead_byte_unknown, unsigned_too_large, string_not_utf8, nested_too_deep, too_many_entries, key_not_string, key_repeated, outer_not_map}
use Rattle.numbers.specs.Ranges.{integer_limit}
use Rattle.utf8.specs.Check.{is_utf8}
use Rattle.heads.specs.Head.{kind_at, head_at, some_head}
use Rattle.heads.specs.declared.Kind.{Kind}
use Rattle.heads.specs.declared.Head.{Head}
use Rattle.messagepack.specs.Limits.{file_limit, entry_limit}
use Rattle.messagepack.specs.Walk.{on_head, on_text, body_at, text_body, text_head, text_at, key_of_kind, key_at, among, many_at, entries_from, entries_at, value_at, outer, container_number, ok_text}
use Rattle.messagepack.specs.declared.Text.{Text}

-- strings that are the same start at the same place and are as long
abbrev at_or : Result Text ℕ → ℕ
at_or (Ok t) = t.at
at_or (Err e) = 0

abbrev count_or : Result Text ℕ → ℕ
count_or (Ok t) = t.count
count_or (Err e) = 0

pub same-text : {p n q m : ℕ} → ok_text p n ≡ ok_text q m → (p ≡ q) × (n ≡ m)
same-text e = (ap at_or e, ap count_or e)

-- an array's values, one at a time
module _ (f : ℕ → Result ℕ ℕ) where
  pub many-none : (n p : ℕ) → n ≤ 0 → many_at f n p ≡ Ok p
  unfolding many_at
  many-none zero p h = refl
  many-none (suc n) p h = absurd (not-suc-le-zero h)

  pub many-end : (n p : ℕ) {q : ℕ} → 0 < n → f p ≡ Ok q → many_at f n p ≡ many_at f (n - 1) q
  unfolding many_at
  many-end zero p h e = absurd (not-suc-le-zero h)
  many-end (suc n) p h e = rw (e, sub-one)

  pub many-suc : (n p : ℕ) {q : ℕ} → f p ≡ Ok q → many_at f (suc n) p ≡ many_at f n q
  unfolding many_at
  many-suc n p e = rw e

  pub many-refused : (n p : ℕ) {r : ℕ} → 0 < n → f p ≡ Err r → many_at f n p ≡ Err r
  unfolding many_at
  many-refused zero p h e = absurd (not-suc-le-zero h)
  many-refused (suc n) p h e = rw e

module _ (s : List ℕ) where
  -- bodies

  pub body-in : (n p : ℕ) → p + n ≤ length s → body_at s n p ≡ Ok (p + n)
  unfolding body_at
  body-in n p le = rw (le-leb (p + n) (length s) le)

  pub body-out : (n p : ℕ) → length s < p + n → body_at s n p ≡ Err cut_short
  unfolding body_at
  body-out n p lt = rw (lt-leb (p + n) (length s) lt)

  pub body_end : (n p : ℕ) {e : ℕ} → body_at s n p ≡ Ok e → (p + n ≤ length s) × (e ≡ p + n)
  unfolding body_at
  body_end n p {e} h = go (nat_le (p + n) (length s)) refl h
    where
      go : (t : Bool) → nat_le (p + n) (length s) ≡ t → cond t (Ok (p + n)) (Err cut_short) ≡ Ok e → (p + n ≤ length s) × (e ≡ p + n)
      go true t k = (leb-true (p + n) (length s) t, cc)
      go false t k = let z : ◌≡◌ {A = ℕ} 0 1 = cc in absurd (omega arith)

  -- strings

  -- what a string that is found is
  pub record TextIs (at p n : ℕ) : Type 0 where
    pub head : head_at s at ≡ some_head n p
    pub inside : p + n ≤ length s
    pub utf8 : is_utf8 (take n (drop p s)) ≡ true

  pub text-is : (at : ℕ) {p n : ℕ} → text_at s at ≡ ok_text p n → TextIs at p n
  unfolding text_at
  text-is at {p} {n} h = head (head_at s at) refl h
    where
      utf : (m q : ℕ) → head_at s at ≡ some_head m q → q + m ≤ length s → (b : Bool) → is_utf8 (take m (drop q s)) ≡ b → cond b (ok_text q m) (Err string_not_utf8) ≡ ok_text p n → TextIs at p n
      utf m q g le true u k =
          let i : q ≡ p = (same-text k).0 in
          let j : m ≡ n = (same-text k).1 in
          record { head = rw (i, j) at g; inside = rw (← i, ← j) le; utf8 = rw (← i, ← j) u }
      utf m q g le false u k = let z : ◌≡◌ {A = ℕ} 0 1 = cc in absurd (omega arith)

      body : (m q : ℕ) → head_at s at ≡ some_head m q → (w : Result ℕ ℕ) → body_at s m q ≡ w → text_body s m q w ≡ ok_text p n → TextIs at p n
      body m q g (Err e) b k = let z : ◌≡◌ {A = ℕ} 0 1 = cc in absurd (omega arith)
      body m q g (Ok e) b k = utf m q g (body_end m q b).0 (is_utf8 (take m (drop q s))) refl k

      head : (g : Option Head) → head_at s at ≡ g → text_head s g ≡ ok_text p n → TextIs at p n
      head None g k = let z : ◌≡◌ {A = ℕ} 0 1 = cc in absurd (omega arith)
      head (Some x) g k = body x.number x.end g (body_at s x.number x.end) refl k

  pub text-cut : (at : ℕ) → head_at s at ≡ None → text_at s at ≡ Err cut_short
  unfolding text_at
  text-cut at g = rw g

  pub text-short : (at : ℕ) {n p e : ℕ} → head_at s at ≡ some_head n p → body_at s n p ≡ Err e → text_at s at ≡ Err e
  unfolding text_at
  text-short at g b = rw (g, b)

  pub text-tested : (at : ℕ) {n p e : ℕ} (t : Bool) → head_at s at ≡ some_head n p → body_at s n p ≡ Ok e → is_utf8 (take n (drop p s)) ≡ t → text_at s at ≡ cond t (ok_text p n) (Err string_not_utf8)
  unfolding text_at
  text-tested at t g b u = rw (g, b, u)

  -- keys

  pub key-by : (at : ℕ) {k : Kind} → kind_at s at ≡ k → key_at s at ≡ key_of_kind s at k
  unfolding key_at
  key-by at e = rw e

  -- a value of another kind than a string is no key
  pub key-other : (at : ℕ) {k : Kind} → kind_at s at ≡ k → (k ≡ Kind.Unsigned) ⊎ (k ≡ Kind.Signed) ⊎ (k ≡ Kind.Float) ⊎ (k ≡ Kind.Bin) ⊎ (k ≡ Kind.Array) ⊎ (k ≡ Kind.Map) → key_at s at ≡ Err key_not_string
  key-other at e (inl o) = key-by at (e ∙ o)
  key-other at e (inr (inl o)) = key-by at (e ∙ o)
  key-other at e (inr (inr (inl o))) = key-by at (e ∙ o)
  key-other at e (inr (inr (inr (inl o)))) = key-by at (e ∙ o)
  key-other at e (inr (inr (inr (inr (inl o))))) = key-by at (e ∙ o)
  key-other at e (inr (inr (inr (inr (inr o))))) = key-by at (e ∙ o)

  -- a key that is found is a string
  pub key-is : (at : ℕ) {p n : ℕ} → key_at s at ≡ ok_text p n → (kind_at s at ≡ Kind.Str) × (text_at s at ≡ ok_text p n)
  unfolding key_at
  key-is at {p} {n} h = go (kind_at s at) refl h
    where
      go : (k : Kind) → kind_at s at ≡ k → key_of_kind s at k ≡ ok_text p n → (kind_at s at ≡ Kind.Str) × (text_at s at ≡ ok_text p n)
      go Kind.Str e q = (e, q)
      go Kind.Missing e q = let z : ◌≡◌ {A = ℕ} 0 1 = cc in absurd (omega arith)
      go Kind.Outside e q = let z : ◌≡◌ {A = ℕ} 0 1 = cc in absurd (omega arith)
      go Kind.Unsigned e q = let z : ◌≡◌ {A = ℕ} 0 1 = cc in absurd (omega arith)
      go Kind.Signed e q = let z : ◌≡◌ {A = ℕ} 0 1 = cc in absurd (omega arith)
      go Kind.Float e q = let z : ◌≡◌ {A = ℕ} 0 1 = cc in absurd (omega arith)
      go Kind.Bin e q = let z : ◌≡◌ {A = ℕ} 0 1 = cc in absurd (omega arith)
      go Kind.Array e q = let z : ◌≡◌ {A = ℕ} 0 1 = cc in absurd (omega arith)
      go Kind.Map e q = let z : ◌≡◌ {A = ℕ} 0 1 = cc in absurd (omega arith)

  -- values, by their kind

  pub value-missing : (d at : ℕ) → kind_at s at ≡ Kind.Missing → value_at s d at ≡ Err cut_short
  unfolding value_at
  value-missing zero at k = rw k
  value-missing (suc d) at k = rw k

  pub value-outside : (d at : ℕ) → kind_at s at ≡ Kind.Outside → value_at s d at ≡ Err lead_byte_unknown
  unfolding value_at
  value-outside zero at k = rw k
  value-outside (suc d) at k = rw k

  pub value-unsigned : (d at : ℕ) → kind_at s at ≡ Kind.Unsigned → value_at s d at ≡ on_head (head_at s at) (λ n p. cond (nat_le n integer_limit) (Ok p) (Err unsigned_too_large))
  unfolding value_at
  value-unsigned zero at k = rw k
  value-unsigned (suc d) at k = rw k

  pub value-signed : (d at : ℕ) → kind_at s at ≡ Kind.Signed → value_at s d at ≡ on_head (head_at s at) (λ n p. Ok p)
  unfolding value_at
  value-signed zero at k = rw k
  value-signed (suc d) at k = rw k

  pub value-float : (d at : ℕ) → kind_at s at ≡ Kind.Float → value_at s d at ≡ on_head (head_at s at) (λ n p. Ok p)
  unfolding value_at
  value-float zero at k = rw k
  value-float (suc d) at k = rw k

  pub value-plain : (d at : ℕ) {k : Kind} → kind_at s at ≡ k → (k ≡ Kind.Signed) ⊎ (k ≡ Kind.Float) → value_at s d at ≡ on_head (head_at s at) (λ n p. Ok p)
  value-plain d at k (inl o) = value-signed d at (k ∙ o)
  value-plain d at k (inr o) = value-float d at (k ∙ o)

  pub value-bin : (d at : ℕ) → kind_at s at ≡ Kind.Bin → value_at s d at ≡ on_head (head_at s at) (λ n p. body_at s n p)
  unfolding value_at
  value-bin zero at k = rw k
  value-bin (suc d) at k = rw k

  pub value-str : (d at : ℕ) → kind_at s at ≡ Kind.Str → value_at s d at ≡ on_text (text_at s at) (λ p n. Ok (p + n))
  unfolding value_at
  value-str zero at k = rw k
  value-str (suc d) at k = rw k

  pub value-array : (d at : ℕ) → 0 < d → kind_at s at ≡ Kind.Array → value_at s d at ≡ on_head (head_at s at) (many_at (value_at s (d - 1)))
  unfolding value_at
  value-array zero at h k = absurd (not-suc-le-zero h)
  value-array (suc d) at h k = rw (k, sub-one)

  pub value-map : (d at : ℕ) → 0 < d → kind_at s at ≡ Kind.Map → value_at s d at ≡ on_head (head_at s at) (entries_at s (value_at s (d - 1)))
  unfolding value_at
  value-map zero at h k = absurd (not-suc-le-zero h)
  value-map (suc d) at h k = rw (k, sub-one)

  pub array-cut : (d at : ℕ) → 0 < d → kind_at s at ≡ Kind.Array → head_at s at ≡ None → value_at s d at ≡ Err cut_short
  array-cut d at h k g = value-array d at h k ∙ rw g

  pub array_at : (d at : ℕ) {n p : ℕ} → 0 < d → kind_at s at ≡ Kind.Array → head_at s at ≡ some_head n p → value_at s d at ≡ many_at (value_at s (d - 1)) n p
  array_at d at h k g = value-array d at h k ∙ rw g

  pub map-cut : (d at : ℕ) → 0 < d → kind_at s at ≡ Kind.Map → head_at s at ≡ None → value_at s d at ≡ Err cut_short
  map-cut d at h k g = value-map d at h k ∙ rw g

  pub map_at : (d at : ℕ) {n p : ℕ} → 0 < d → kind_at s at ≡ Kind.Map → head_at s at ≡ some_head n p → value_at s d at ≡ entries_at s (value_at s (d - 1)) n p
  map_at d at h k g = value-map d at h k ∙ rw g

  pub deep-array : (d at : ℕ) → d ≡ 0 → kind_at s at ≡ Kind.Array → value_at s d at ≡ Err nested_too_deep
  unfolding value_at
  deep-array d at h k = rw (h, k)

  pub deep-map : (d at : ℕ) → d ≡ 0 → kind_at s at ≡ Kind.Map → value_at s d at ≡ Err nested_too_deep
  unfolding value_at
  deep-map d at h k = rw (h, k)

-- a map's entries, one at a time
module _ (s : List ℕ) (f : ℕ → Result ℕ ℕ) where
  pub entries-many : (n p : ℕ) → entry_limit < n → entries_at s f n p ≡ Err too_many_entries
  unfolding entries_at
  entries-many n p h = rw (lt-leb n entry_limit h)

  pub entries-few : (n p : ℕ) → n ≤ entry_limit → entries_at s f n p ≡ entries_from s f n [] p
  unfolding entries_at
  entries-few n p h = rw (le-leb n entry_limit h)

  pub entries_none : (n p : ℕ) (ks : List (List ℕ)) → n ≤ 0 → entries_from s f n ks p ≡ Ok p
  unfolding entries_from
  entries_none zero p ks h = refl
  entries_none (suc n) p ks h = absurd (not-suc-le-zero h)

  pub entries-key : (n p : ℕ) (ks : List (List ℕ)) {e : ℕ} → 0 < n → key_at s p ≡ Err e → entries_from s f n ks p ≡ Err e
  unfolding entries_from
  entries-key zero p ks h k = absurd (not-suc-le-zero h)
  entries-key (suc n) p ks h k = rw k

  pub entries_twice : (n p : ℕ) (ks : List (List ℕ)) {a m : ℕ} → 0 < n → key_at s p ≡ ok_text a m → among (take m (drop a s)) ks ≡ true → entries_from s f n ks p ≡ Err key_repeated
  unfolding entries_from
  entries_twice zero p ks h k b = absurd (not-suc-le-zero h)
  entries_twice (suc n) p ks h k b = rw (k, b)

  pub entries-value : (n p : ℕ) (ks : List (List ℕ)) {a m e : ℕ} → 0 < n → key_at s p ≡ ok_text a m → among (take m (drop a s)) ks ≡ false → f (a + m) ≡ Err e → entries_from s f n ks p ≡ Err e
  unfolding entries_from
  entries-value zero p ks h k b v = absurd (not-suc-le-zero h)
  entries-value (suc n) p ks h k b v = rw (k, b, v)

  pub entries-end : (n p : ℕ) (ks : List (List ℕ)) {a m q : ℕ} → 0 < n → key_at s p ≡ ok_text a m → among (take m (drop a s)) ks ≡ false → f (a + m) ≡ Ok q → entries_from s f n ks p ≡ entries_from s f (n - 1) (take m (drop a s) ∷ ks) q
  unfolding entries_from
  entries-end zero p ks h k b v = absurd (not-suc-le-zero h)
  entries-end (suc n) p ks h k b v = rw (k, b, v, sub-one)

  pub entries-suc : (n p : ℕ) (ks : List (List ℕ)) {a m q : ℕ} → key_at s p ≡ ok_text a m → among (take m (drop a s)) ks ≡ false → f (a + m) ≡ Ok q → entries_from s f (suc n) ks p ≡ entries_from s f n (take m (drop a s) ∷ ks) q
  unfolding entries_from
  entries-suc n p ks k b v = rw (k, b, v)

-- the whole file
module _ (s : List ℕ) where
  pub file-over : file_limit < length s → container_number s ≡ file_over_limit
  unfolding container_number
  file-over h = rw (lt-leb (length s) file_limit h)

  pub file-by : {k : Kind} → length s ≤ file_limit → kind_at s 0 ≡ k → container_number s ≡ outer s k
  unfolding container_number
  file-by h k = rw (le-leb (length s) file_limit h, k)

  -- the outer value is no map
  pub file-other : {k : Kind} → length s ≤ file_limit → kind_at s 0 ≡ k → (k ≡ Kind.Unsigned) ⊎ (k ≡ Kind.Signed) ⊎ (k ≡ Kind.Float) ⊎ (k ≡ Kind.Str) ⊎ (k ≡ Kind.Bin) ⊎ (k ≡ Kind.Array) → container_number s ≡ outer_not_map
  file-other h k (inl o) = file-by h (k ∙ o)
  file-other h k (inr (inl o)) = file-by h (k ∙ o)
  file-other h k (inr (inr (inl o))) = file-by h (k ∙ o)
  file-other h k (inr (inr (inr (inl o)))) = file-by h (k ∙ o)
  file-other h k (inr (inr (inr (inr (inl o))))) = file-by h (k ∙ o)
  file-other h k (inr (inr (inr (inr (inr o))))) = file-by h (k ∙ o)

-- Laws of the table of codecs and of headers. Assumes nothing.
use Rattle.std.specs.Prelude.{Option, Some, None, Err, ◌≡◌, refl, Bool, true, false, cond, ◌&&◌, List, ℕ, zero, suc, ◌+◌, ◌-◌, ◌*◌, ◌<◌, ◌≤◌, length, leb, ltb}
use Rattle.std.proofs.Common.{sym, ap, ap₂, subst, ◌∙◌, mul-le-mul_right, arith, le-leb, leb-true, ltb-false}
use Rattle.std.proofs.Math.Bool.{and-eq-true_iff}
use Rattle.std.proofs.Math.ListN.{get_or-eq_default}
use Rattle.std.proofs.lemmas.Bool.{lt-leb}
use Rattle.refusal.specs.Table.{column_short, codec_unknown, header_range, payload_size}
use Rattle.numbers.specs.BigEndian.{unsigned_at}
use Rattle.steps.specs.declared.Form.{Form}
use Rattle.steps.specs.declared.Form.TheVariants.{Names}
use Rattle.columns.specs.declared.Kind.{Kind}
use Rattle.columns.specs.declared.Kind.TheVariants as kind
use Rattle.columns.specs.declared.Wanted.{Wanted}
use Rattle.columns.specs.declared.Parameter.{Parameter}
use Rattle.columns.specs.declared.Parameter.TheVariants.{Unused, Divisor, NameSize}
use Rattle.columns.specs.declared.Codec.{Codec}
use Rattle.columns.specs.Table.{codec_with, table, codec_of, is_strings, suits, length_limit, name_limit, is_name_size, parameter_ok, used, is_names, size_right}
use Rattle.columns.specs.Header.{header_with, header_size, judged, header_of}
use Rattle.columns.proofs.Laws.Rows.{same_kind, row_sized, row_other, row-names}
use Rattle.columns.proofs.Laws.Same.{same_header}
use Rattle.columns.proofs.Laws.Form.{used-right, used-size}

-- The table

-- a number that is no row's
pub codec-unknown : (c : ℕ) → (0 < c → 16 < c) → codec_of c ≡ None
unfolding codec_of
codec-unknown zero h = refl
codec-unknown (suc c) h = let k = h (omega arith) in get_or-eq_default table None {n = suc c} (omega arith)

-- four numbers that c is not
pub past-four : (c k : ℕ) → k < c → (c ≡ k + 1 → ⊥) → (c ≡ k + 2 → ⊥) → (c ≡ k + 3 → ⊥) → (c ≡ k + 4 → ⊥) → k + 4 < c
past-four c k h a b d e = omega arith

-- Sizes

-- a product that a payload's size is held to fits 64 bits
pub product-fits : (n m : ℕ) → n ≤ length_limit → m ≤ 4294967295 → n * m < 18446744073709551616
product-fits n m h k = let a : n * m ≤ length_limit * m = mul-le-mul_right m h in omega arith

-- Headers

module _ (w : Wanted) (k : Kind) (f : Form) (d : Bool) (p : Parameter) (n m b : ℕ) where
  pub judged-unwanted : suits w k ≡ false → judged w (codec_with k f d p) n m b ≡ Err codec_unknown
  judged-unwanted a = rw a

  pub judged-long : suits w k ≡ true → length_limit < n → judged w (codec_with k f d p) n m b ≡ Err header_range
  judged-long a l = rw (a, lt-leb n length_limit l)

  pub judged-parameter : suits w k ≡ true → n ≤ length_limit → parameter_ok p m ≡ false → judged w (codec_with k f d p) n m b ≡ Err header_range
  judged-parameter a l q = rw (a, le-leb n length_limit l, q)

  pub judged-size : suits w k ≡ true → n ≤ length_limit → parameter_ok p m ≡ true → size_right f n m b ≡ false → judged w (codec_with k f d p) n m b ≡ Err payload_size
  judged-size a l q s = rw (a, le-leb n length_limit l, q, s)

  pub judged-good : suits w k ≡ true → n ≤ length_limit → parameter_ok p m ≡ true → size_right f n m b ≡ true → judged w (codec_with k f d p) n m b ≡ header_with n (used p m) k f d
  judged-good a l q s = rw (a, le-leb n length_limit l, q, s)

-- a header that passes
abbrev pub Passes : Wanted → List ℕ → ℕ → ℕ → Kind → Form → Bool → Type 0
Passes w s n m k f d =
    (header_size ≤ length s) × (n ≤ length_limit) × (suits w k ≡ true)
    × (row : (p : Parameter) × (codec_of (unsigned_at 4 s 0) ≡ codec_with k f d p) × (parameter_ok p m ≡ true)) × (size_right f n m (length s - header_size) ≡ true)
    × (n ≡ unsigned_at 4 s 4) × (m ≡ used row.0 (unsigned_at 4 s 8))

pub header-passes : (w : Wanted) (s : List ℕ) (n m : ℕ) (k : Kind) (f : Form) (d : Bool) → header_of w s ≡ header_with n m k f d → Passes w s n m k f d
unfolding header_of
header-passes w s n m k f d e = by_length (ltb (length s) header_size) refl e
  where
    clash : {A : Type 0} (r : ℕ) → Err r ≡ header_with n m k f d → A
    clash r q = let z : ◌≡◌ {A = ℕ} 0 1 = cc in absurd (omega arith)

    N : ℕ
    N = unsigned_at 4 s 4

    M : ℕ
    M = unsigned_at 4 s 8

    sized : {f' : Form} {n' m' : ℕ} → f' ≡ f → n' ≡ n → m' ≡ m → size_right f' n' m' (length s - header_size) ≡ true → size_right f n m (length s - header_size) ≡ true
    sized {f'} y a b z = sym (ap (λ (i : Form). size_right i n m (length s - header_size)) y) ∙ sym (ap₂ (λ (i j : ℕ). size_right f' i j (length s - header_size)) a b) ∙ z

    by_size : (k' : Kind) (f' : Form) (d' : Bool) (p : Parameter) → header_size ≤ length s → codec_of (unsigned_at 4 s 0) ≡ codec_with k' f' d' p → suits w k' ≡ true
        → N ≤ length_limit → parameter_ok p M ≡ true → (t : Bool) → size_right f' N M (length s - header_size) ≡ t
        → cond t (header_with N (used p M) k' f' d') (Err payload_size) ≡ header_with n m k f d → Passes w s n m k f d
    by_size k' f' d' p l c u h g false z q = clash payload_size q
    by_size k' f' d' p l c u h g true z q =
        let same = same_header q in
        let a : N ≡ n = same.0 in
        let b : used p M ≡ m = same.1 in
        let x : k' ≡ k = same.2 in
        let y : f' ≡ f = same.3 in
        let v : d' ≡ d = same.4 in (
          l,
          subst (λ (i : ℕ). i ≤ length_limit) a h,
          subst (λ (i : Kind). suits w i ≡ true) x u,
          (p, c ∙ (ap (λ (i : Kind). codec_with i f' d' p) x ∙ ap₂ (λ (i : Form) (j : Bool). codec_with k i j p) y v), subst (λ (i : ℕ). parameter_ok p i ≡ true) b (used-right p M g)),
          sized y a b (used-size f' p N M (length s - header_size) (row_sized (unsigned_at 4 s 0) c) ∙ z),
          sym a,
          sym b,
        )

    by-range : (k' : Kind) (f' : Form) (d' : Bool) (p : Parameter) → header_size ≤ length s → codec_of (unsigned_at 4 s 0) ≡ codec_with k' f' d' p → suits w k' ≡ true
        → (t : Bool) → (leb N length_limit && parameter_ok p M) ≡ t
        → cond t (cond (size_right f' N M (length s - header_size)) (header_with N (used p M) k' f' d') (Err payload_size)) (Err header_range) ≡ header_with n m k f d → Passes w s n m k f d
    by-range k' f' d' p l c u false z q = clash header_range q
    by-range k' f' d' p l c u true z q =
        let g = (and-eq-true_iff (leb N length_limit) (parameter_ok p M)).0 z in
        by_size k' f' d' p l c u (leb-true N length_limit g.0) g.1 (size_right f' N M (length s - header_size)) refl q

    by_kind : (k' : Kind) (f' : Form) (d' : Bool) (p : Parameter) → header_size ≤ length s → codec_of (unsigned_at 4 s 0) ≡ codec_with k' f' d' p
        → (t : Bool) → suits w k' ≡ t
        → cond t (cond (leb N length_limit && parameter_ok p M) (cond (size_right f' N M (length s - header_size)) (header_with N (used p M) k' f' d') (Err payload_size)) (Err header_range)) (Err codec_unknown) ≡ header_with n m k f d
        → Passes w s n m k f d
    by_kind k' f' d' p l c false u q = clash codec_unknown q
    by_kind k' f' d' p l c true u q = by-range k' f' d' p l c u (leb N length_limit && parameter_ok p M) refl q

    by-codec : (x : Option Codec) → header_size ≤ length s → codec_of (unsigned_at 4 s 0) ≡ x → judged w x N M (length s - header_size) ≡ header_with n m k f d → Passes w s n m k f d
    by-codec None l c q = clash codec_unknown q
    by-codec (Some r) l c q = by_kind r.kind r.form r.delta r.parameter l c (suits w r.kind) refl q

    by_length : (t : Bool) → ltb (length s) header_size ≡ t
        → cond t (Err column_short) (judged w (codec_of (unsigned_at 4 s 0)) N M (length s - header_size)) ≡ header_with n m k f d → Passes w s n m k f d
    by_length true t q = clash column_short q
    by_length false t q = by-codec (codec_of (unsigned_at 4 s 0)) (ltb-false (length s) header_size t) refl q

-- What a header that passes says of names

module _ (w : Wanted) (s : List ℕ) (n m : ℕ) (k : Kind) (f : Form) (d : Bool) (h : Passes w s n m k f d) where
  -- a header of another kind than strings has no names
  pub other_row : is_strings k ≡ false → is_names f ≡ false
  other_row e = row_other (unsigned_at 4 s 0) h.3.1 e

  -- strings are names of a size up to the limit, without delta
  pub strings-row : is_strings k ≡ true → (f ≡ Names) × (d ≡ false) × (is_name_size h.3.0 ≡ true) × (m ≤ name_limit)
  strings-row e = let r = row-names (unsigned_at 4 s 0) h.3.1 e in (r.0, r.1, r.2, size h.3.0 r.2 h.3.2)
    where
      size : (p : Parameter) → is_name_size p ≡ true → parameter_ok p m ≡ true → m ≤ name_limit
      size Unused q o = let y : ◌≡◌ {A = ℕ} 0 1 = cc in absurd (omega arith)
      size Divisor q o = let y : ◌≡◌ {A = ℕ} 0 1 = cc in absurd (omega arith)
      size NameSize q o = leb-true m name_limit ((and-eq-true_iff (leb 1 m) (leb m name_limit)).0 o).1

  -- where strings are not wanted there are no names
  pub no_names : suits w kind.Strings ≡ false → is_names f ≡ false
  no_names e = by (is_strings k) refl
    where
      by : (t : Bool) → is_strings k ≡ t → is_names f ≡ false
      by true q = let z : false ≡ true = sym e ∙ ap (suits w) (sym (same_kind k kind.Strings q)) ∙ h.2 in let y : ◌≡◌ {A = ℕ} 0 1 = cc in absurd (omega arith)
      by false q = other_row q

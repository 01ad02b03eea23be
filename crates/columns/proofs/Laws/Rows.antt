-- What every row of the table of codecs keeps, by one test over the whole table. Assumes nothing.
use Rattle.std.proofs.Math.Path.{◌≡◌, refl}
use Rattle.std.proofs.Common.{sym, ap, ◌∙◌, arith}
use Rattle.std.specs.Prelude.{Option, Some, None, Bool, not, ◌&&◌, ◌||◌, List, [], ◌∷◌, ℕ, zero, suc, ◌<◌, ◌≤◌}
use Rattle.std.proofs.Math.Bool.{true, false, and-eq-true_iff}
use Rattle.std.specs.Bool.{beq}
use Rattle.std.proofs.Math.ListN.{length, get_or, get_or-eq_default}
use Rattle.std.proofs.Math.Dec.{ltb}
use borrow.Author.Tests.{eqb-true, ltb-true, ltb-false}
use Rattle.steps.specs.declared.Range.{Range}
use Rattle.steps.specs.declared.Range.TheVariants as range
use Rattle.steps.specs.declared.Form.{Form}
use Rattle.steps.specs.declared.Form.TheVariants.{Plain, Packed, Runs, Names}
use Rattle.steps.specs.Payload.{range_of}
use Rattle.columns.specs.declared.Kind.{Kind}
use Rattle.columns.specs.declared.Kind.TheVariants as kind
use Rattle.columns.specs.declared.Parameter.{Parameter}
use Rattle.columns.specs.declared.Parameter.TheVariants.{Unused, Divisor, NameSize}
use Rattle.columns.specs.declared.Codec.{Codec}
use Rattle.columns.specs.Table.{codec_with, table, codec_of, kind_tag, is_kind, is_strings, is_name_size, is_names}

-- Kinds

-- a kind is known by its number
abbrev kinds : List Kind
kinds = kind.Float32 ∷ kind.FixedPoint ∷ kind.Int8 ∷ kind.Int16 ∷ kind.Int32 ∷ kind.Strings ∷ kind.Chars ∷ []

kind-at : (k : Kind) → get_or kinds (kind_tag k) kind.Float32 ≡ k
kind-at kind.Float32 = refl
kind-at kind.FixedPoint = refl
kind-at kind.Int8 = refl
kind-at kind.Int16 = refl
kind-at kind.Int32 = refl
kind-at kind.Strings = refl
kind-at kind.Chars = refl

pub same_kind : (k j : Kind) → is_kind k j ≡ true → k ≡ j
same_kind k j e = sym (kind-at k) ∙ ap (λ (n : ℕ). get_or kinds n kind.Float32) (eqb-true (kind_tag k) (kind_tag j) e) ∙ kind-at j

-- What a row keeps

-- whether a range is that of all 32-bit numbers
abbrev pub is_wide : Range → Bool
is_wide range.Int8 = false
is_wide range.Int16 = false
is_wide range.Int32 = true
is_wide range.Ascii = false

-- where delta follows, the values may be any 32-bit numbers
abbrev pub delta_wide : Bool → Form → Bool
delta_wide true f = is_wide (range_of f)
delta_wide false f = true

-- names have a size
abbrev pub names_sized : Form → Parameter → Bool
names_sized Names NameSize = true
names_sized Names Unused = false
names_sized Names Divisor = false
names_sized (Plain z) p = true
names_sized (Packed z) p = true
names_sized (Runs r) p = true

pub wide-Int32 : (r : Range) → is_wide r ≡ true → r ≡ range.Int32
wide-Int32 range.Int8 e = let y : ◌≡◌ {A = ℕ} 0 1 = cc in absurd (omega arith)
wide-Int32 range.Int16 e = let y : ◌≡◌ {A = ℕ} 0 1 = cc in absurd (omega arith)
wide-Int32 range.Int32 e = refl
wide-Int32 range.Ascii e = let y : ◌≡◌ {A = ℕ} 0 1 = cc in absurd (omega arith)

pub sized-NameSize : (p : Parameter) → names_sized Names p ≡ true → p ≡ NameSize
sized-NameSize Unused e = let y : ◌≡◌ {A = ℕ} 0 1 = cc in absurd (omega arith)
sized-NameSize Divisor e = let y : ◌≡◌ {A = ℕ} 0 1 = cc in absurd (omega arith)
sized-NameSize NameSize e = refl

-- The table

abbrev all_rows : (Option Codec → Bool) → List (Option Codec) → Bool
all_rows test [] = true
all_rows test (r ∷ rs) = test r && all_rows test rs

-- a test that each row of the table passes is passed by every codec
pub every-codec : (test : Option Codec → Bool) → test None ≡ true → all_rows test table ≡ true → (c : ℕ) → test (codec_of c) ≡ true
unfolding codec_of
every-codec test u h c = at table h c
  where
    at : (rows : List (Option Codec)) → all_rows test rows ≡ true → (c : ℕ) → test (get_or rows c None) ≡ true
    at [] h c = u
    at (r ∷ rows) h zero = ((and-eq-true_iff (test r) (all_rows test rows)).0 h).0
    at (r ∷ rows) h (suc c) = at rows ((and-eq-true_iff (test r) (all_rows test rows)).0 h).1 c

-- Strings, and they alone, are names, without delta and with their size. Where delta follows, the values may be any 32-bit numbers.
abbrev row_ok : Option Codec → Bool
row_ok None = true
row_ok (Some c) =
    (delta_wide c.delta c.form && names_sized c.form c.parameter)
    && (beq (is_strings c.kind) (is_names c.form) && (not (is_strings c.kind) || (not c.delta && is_name_size c.parameter)))

module _ (c : ℕ) {k : Kind} {f : Form} {d : Bool} {p : Parameter} (e : codec_of c ≡ codec_with k f d p) where
  row : row_ok (codec_with k f d p) ≡ true
  row = sym (ap row_ok e) ∙ every-codec row_ok refl refl c

  row-ok : (delta_wide d f ≡ true) × (names_sized f p ≡ true)
  row-ok = (and-eq-true_iff (delta_wide d f) (names_sized f p)).0 ((and-eq-true_iff (delta_wide d f && names_sized f p) (beq (is_strings k) (is_names f) && (not (is_strings k) || (not d && is_name_size p)))).0 row).0

  row-strings : beq (is_strings k) (is_names f) && (not (is_strings k) || (not d && is_name_size p)) ≡ true
  row-strings = ((and-eq-true_iff (delta_wide d f && names_sized f p) (beq (is_strings k) (is_names f) && (not (is_strings k) || (not d && is_name_size p)))).0 row).1

  pub row-wide : delta_wide d f ≡ true
  row-wide = row-ok.0

  pub row_sized : names_sized f p ≡ true
  row_sized = row-ok.1

  -- another kind than strings has no names
  pub row_other : is_strings k ≡ false → is_names f ≡ false
  row_other h = by (is_names f) (rw h at row-strings)
    where
      by : (b : Bool) → (beq false b && true) ≡ true → b ≡ false
      by false q = refl
      by true q = let y : ◌≡◌ {A = ℕ} 0 1 = cc in absurd (omega arith)

  -- strings have names, no delta, and a size
  pub row-names : is_strings k ≡ true → (f ≡ Names) × (d ≡ false) × (is_name_size p ≡ true)
  row-names h = by f d (rw h at row-strings)
    where
      by : (f : Form) (d : Bool) → (beq true (is_names f) && (not d && is_name_size p)) ≡ true → (f ≡ Names) × (d ≡ false) × (is_name_size p ≡ true)
      by (Plain z) d q = let y : ◌≡◌ {A = ℕ} 0 1 = cc in absurd (omega arith)
      by (Packed z) d q = let y : ◌≡◌ {A = ℕ} 0 1 = cc in absurd (omega arith)
      by (Runs r) d q = let y : ◌≡◌ {A = ℕ} 0 1 = cc in absurd (omega arith)
      by Names true q = let y : ◌≡◌ {A = ℕ} 0 1 = cc in absurd (omega arith)
      by Names false q = (refl, refl, q)

  -- a known codec is one of the table's numbers
  pub row_small : c < 17
  unfolding codec_of
  row_small = by-test (ltb c 17) refl
    where
      by-test : (t : Bool) → ltb c 17 ≡ t → c < 17
      by-test true h = ltb-true c 17 h
      by-test false h =
          let l : length table ≤ c = ltb-false c 17 h in
          let u : get_or table c None ≡ None = get_or-eq_default table None l in
          let y : ◌≡◌ {A = ℕ} 0 1 = cc in absurd (omega arith)

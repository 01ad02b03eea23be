-- Laws of the table's rows: which forms the columns of numbers and of characters have. Assumes nothing.
use Rattle.std.specs.Prelude.{Option, Some, None, ◌≡◌, ◌≢◌, refl, Bool, true, false, not, ◌||◌, ℕ}
use Rattle.std.proofs.Common.{sym, ap, ◌∙◌, arith}
use Rattle.std.proofs.lemmas.Bool.{not-true}
use Rattle.steps.specs.declared.Size.{Size}
use Rattle.steps.specs.declared.Range.TheVariants.{Int8, Int16, Int32, Ascii}
use Rattle.steps.specs.declared.Form.{Form}
use Rattle.steps.specs.declared.Form.TheVariants.{Plain, Packed, Runs, Names}
use Rattle.columns.specs.declared.Kind.{Kind}
use Rattle.columns.specs.declared.Kind.TheVariants as kind
use Rattle.columns.specs.declared.Parameter.{Parameter}
use Rattle.columns.specs.declared.Codec.{Codec}
use Rattle.columns.specs.Table.{codec_with, codec_of, is_kind, is_names}
use Rattle.columns.proofs.Laws.Rows.{every-codec}
use Rattle.decoding.specs.Steps.{is_written, is_bytes, has_bytes}

abbrev codec_ok : Option Codec → Bool
codec_ok None = true
codec_ok (Some c) = is_names c.form || is_written c.form c.delta

-- a codec without names has a form of numbers
pub written_row : (c : ℕ) (k : Kind) (f : Form) (d : Bool) (p : Parameter) → codec_of c ≡ codec_with k f d p → is_names f ≡ false → is_written f d ≡ true
written_row c k f d p e h = rw h at (sym (ap codec_ok e) ∙ every-codec codec_ok refl refl c)

pub written-other : (f : Form) (d : Bool) → is_written f d ≡ true → is_names f ≡ false
written-other (Plain z) d h = refl
written-other (Packed z) d h = refl
written-other (Runs r) d h = refl
written-other Names d h = let y : ◌≡◌ {A = ℕ} 0 1 = cc in absurd (omega arith)

-- plain numbers have no delta
pub plain-alone : {f : Form} (z : Size) (d : Bool) → f ≡ Plain z → is_written f d ≡ true → d ≡ false
plain-alone z d e h = not-true d (sym (ap (λ (i : Form). is_written i d) e) ∙ h)

-- a codec of a kind of bytes has a form of bytes
abbrev bytes_ok : Option Codec → Bool
bytes_ok None = true
bytes_ok (Some c) = not (is_bytes c.kind) || has_bytes c.form c.delta

pub bytes-row : (c : ℕ) (k : Kind) (f : Form) (d : Bool) (p : Parameter) → codec_of c ≡ codec_with k f d p → is_bytes k ≡ true → has_bytes f d ≡ true
bytes-row c k f d p e h = rw h at (sym (ap bytes_ok e) ∙ every-codec bytes_ok refl refl c)

-- names, or runs of characters
pub bytes-names : (d : Bool) → has_bytes Names d ≡ true → d ≡ false
bytes-names d e = not-true d e

pub bytes-chars : (f : Form) (d : Bool) → has_bytes f d ≡ true → f ≢ Names → (f ≡ Runs Ascii) × (d ≡ false)
bytes-chars (Plain z) d q o = let y : ◌≡◌ {A = ℕ} 0 1 = cc in absurd (omega arith)
bytes-chars (Packed z) d q o = let y : ◌≡◌ {A = ℕ} 0 1 = cc in absurd (omega arith)
bytes-chars (Runs Int8) d q o = let y : ◌≡◌ {A = ℕ} 0 1 = cc in absurd (omega arith)
bytes-chars (Runs Int16) d q o = let y : ◌≡◌ {A = ℕ} 0 1 = cc in absurd (omega arith)
bytes-chars (Runs Int32) d q o = let y : ◌≡◌ {A = ℕ} 0 1 = cc in absurd (omega arith)
bytes-chars (Runs Ascii) d q o = (refl, not-true d q)
bytes-chars Names d q o = absurd (o refl)

-- Characters are in runs, without delta.
abbrev is_chars : Form → Bool → Bool
is_chars (Plain z) d = false
is_chars (Packed z) d = false
is_chars (Runs Int8) d = false
is_chars (Runs Int16) d = false
is_chars (Runs Int32) d = false
is_chars (Runs Ascii) d = not d
is_chars Names d = false

abbrev chars_ok : Option Codec → Bool
chars_ok None = true
chars_ok (Some c) = not (is_kind c.kind kind.Chars) || is_chars c.form c.delta

pub chars-row : (c : ℕ) (k : Kind) (f : Form) (d : Bool) (p : Parameter) → codec_of c ≡ codec_with k f d p → k ≡ kind.Chars → (f ≡ Runs Ascii) × (d ≡ false)
chars-row c k f d p e h = by f (rw h at (sym (ap chars_ok e) ∙ every-codec chars_ok refl refl c))
  where
    by : (f : Form) → is_chars f d ≡ true → (f ≡ Runs Ascii) × (d ≡ false)
    by (Plain z) q = let y : ◌≡◌ {A = ℕ} 0 1 = cc in absurd (omega arith)
    by (Packed z) q = let y : ◌≡◌ {A = ℕ} 0 1 = cc in absurd (omega arith)
    by (Runs Int8) q = let y : ◌≡◌ {A = ℕ} 0 1 = cc in absurd (omega arith)
    by (Runs Int16) q = let y : ◌≡◌ {A = ℕ} 0 1 = cc in absurd (omega arith)
    by (Runs Int32) q = let y : ◌≡◌ {A = ℕ} 0 1 = cc in absurd (omega arith)
    by (Runs Ascii) q = (refl, not-true d q)
    by Names q = let y : ◌≡◌ {A = ℕ} 0 1 = cc in absurd (omega arith)

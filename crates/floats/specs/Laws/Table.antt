-- Laws of the table's rows: what the codecs of real columns have in common. Assumes nothing.
use Rattle.std.specs.Prelude.{Option, Some, None, ◌≡◌, refl, Bool, true, false, not, ◌&&◌, ℕ, ◌≤◌, leb}
use Rattle.std.proofs.Common.{sym, ap, ◌∙◌, arith, leb-true}
use Rattle.std.proofs.Math.Bool.{and-eq-true_iff}
use Rattle.std.proofs.lemmas.Bool.{not-true}
use Rattle.numbers.specs.Ranges.{integer_limit}
use Rattle.steps.specs.declared.Size.{Size}
use Rattle.steps.specs.declared.Size.TheVariants.{One, Two, Four}
use Rattle.steps.specs.declared.Form.{Form}
use Rattle.steps.specs.declared.Form.TheVariants.{Plain, Packed, Runs, Names}
use Rattle.columns.specs.declared.Kind.{Kind}
use Rattle.columns.specs.declared.Kind.TheVariants as kind
use Rattle.columns.specs.declared.Parameter.{Parameter}
use Rattle.columns.specs.declared.Parameter.TheVariants.{Unused, Divisor, NameSize}
use Rattle.columns.specs.declared.Codec.{Codec}
use Rattle.columns.specs.Table.{codec_with, codec_of, parameter_ok, is_names}
use Rattle.columns.proofs.Laws.Rows.{every-codec}
use Rattle.payloads.specs.Scan.{judges_exact}
use Rattle.floats.specs.Steps.{is_divided}

abbrev is_divisor : Parameter → Bool
is_divisor Unused = false
is_divisor Divisor = true
is_divisor NameSize = false

abbrev is_four : Form → Bool → Bool
is_four (Plain One) d = false
is_four (Plain Two) d = false
is_four (Plain Four) d = not d
is_four (Packed z) d = false
is_four (Runs r) d = false
is_four Names d = false

-- Of a row: codec 1 has plain numbers of four bytes, and those with a divisor have the forms that are divided.
abbrev row_ok : Kind → Form → Bool → Parameter → Bool
row_ok kind.Float32 f d p = is_four f d
row_ok kind.FixedPoint f d p = is_divided f d && is_divisor p
row_ok kind.Int8 f d p = true
row_ok kind.Int16 f d p = true
row_ok kind.Int32 f d p = true
row_ok kind.Strings f d p = true
row_ok kind.Chars f d p = true

abbrev codec_ok : Option Codec → Bool
codec_ok None = true
codec_ok (Some c) = row_ok c.kind c.form c.delta c.parameter

every-row : (c : ℕ) → codec_ok (codec_of c) ≡ true
every-row = every-codec codec_ok refl refl

module _ (c : ℕ) (f : Form) (d : Bool) (p : Parameter) where
  -- a codec with a divisor
  pub fixed-row : (m : ℕ) → codec_of c ≡ codec_with kind.FixedPoint f d p → parameter_ok p m ≡ true → (is_divided f d ≡ true) × (1 ≤ m)
  fixed-row m e g = let w = (and-eq-true_iff (is_divided f d) (is_divisor p)).0 (sym (ap codec_ok e) ∙ every-row c) in (w.0, by p w.1 g)
    where
      by : (p : Parameter) → is_divisor p ≡ true → parameter_ok p m ≡ true → 1 ≤ m
      by Unused h g = let y : ◌≡◌ {A = ℕ} 0 1 = cc in absurd (omega arith)
      by Divisor h g = leb-true 1 m ((and-eq-true_iff (leb 1 m) (leb m integer_limit)).0 g).0
      by NameSize h g = let y : ◌≡◌ {A = ℕ} 0 1 = cc in absurd (omega arith)

  -- codec 1
  pub float-row : codec_of c ≡ codec_with kind.Float32 f d p → (f ≡ Plain Four) × (d ≡ false)
  float-row e = by f d (sym (ap codec_ok e) ∙ every-row c)
    where
      by : (f : Form) (d : Bool) → is_four f d ≡ true → (f ≡ Plain Four) × (d ≡ false)
      by (Plain One) d h = let y : ◌≡◌ {A = ℕ} 0 1 = cc in absurd (omega arith)
      by (Plain Two) d h = let y : ◌≡◌ {A = ℕ} 0 1 = cc in absurd (omega arith)
      by (Plain Four) d h = (refl, not-true d h)
      by (Packed z) d h = let y : ◌≡◌ {A = ℕ} 0 1 = cc in absurd (omega arith)
      by (Runs r) d h = let y : ◌≡◌ {A = ℕ} 0 1 = cc in absurd (omega arith)
      by Names d h = let y : ◌≡◌ {A = ℕ} 0 1 = cc in absurd (omega arith)

-- the results of a form that is divided are judged to be exact
pub divided-judged : (f : Form) (d : Bool) → is_divided f d ≡ true → judges_exact f d ≡ true
divided-judged (Plain One) d h = h
divided-judged (Plain Two) d h = h
divided-judged (Plain Four) d h = h
divided-judged (Packed z) d h = refl
divided-judged (Runs r) d h = h
divided-judged Names d h = h

-- a form that is judged to be exact is not that of names
pub exact-names : (f : Form) (d : Bool) → judges_exact f d ≡ true → is_names f ≡ false
exact-names (Plain z) d h = refl
exact-names (Packed z) d h = refl
exact-names (Runs r) d h = refl
exact-names Names d h = let y : ◌≡◌ {A = ℕ} 0 1 = cc in absurd (omega arith)

-- plain numbers that are divided have no delta
pub plain-divided : (z : Size) (d : Bool) → is_divided (Plain z) d ≡ true → d ≡ false
plain-divided One d h = not-true d h
plain-divided Two d h = not-true d h
plain-divided Four d h = let y : ◌≡◌ {A = ℕ} 0 1 = cc in absurd (omega arith)

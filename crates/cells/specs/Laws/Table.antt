-- Laws of the table's rows: where a kind has cells, their places are known or walked to. Assumes nothing.
use Rattle.std.specs.Prelude.{Option, Some, None, ◌≡◌, refl, Bool, true, false, ◌||◌, ℕ}
use Rattle.std.proofs.Common.{sym, ap, ◌∙◌, arith}
use Rattle.std.proofs.lemmas.Bool.{not-true}
use Rattle.steps.specs.declared.Size.{Size}
use Rattle.steps.specs.declared.Form.{Form}
use Rattle.steps.specs.declared.Form.TheVariants.{Plain, Packed, Runs, Names}
use Rattle.columns.specs.declared.Kind.{Kind}
use Rattle.columns.specs.declared.Parameter.{Parameter}
use Rattle.columns.specs.declared.Codec.{Codec}
use Rattle.columns.specs.Table.{codec_with, codec_of, is_strings, is_names}
use Rattle.columns.proofs.Laws.Rows.{every-codec}
use Rattle.cells.specs.Steps.{is_direct}

abbrev row_ok : Option Codec → Bool
row_ok None = true
row_ok (Some c) = is_strings c.kind || is_direct c.form c.delta

-- a kind that has cells
pub cells-row : (c : ℕ) (k : Kind) (f : Form) (d : Bool) (p : Parameter) → codec_of c ≡ codec_with k f d p → is_strings k ≡ false → is_direct f d ≡ true
cells-row c k f d p e h = rw h at (sym (ap row_ok e) ∙ every-codec row_ok refl refl c)

-- plain numbers that are found at their place have no delta
pub direct-plain : (z : Size) (d : Bool) → is_direct (Plain z) d ≡ true → d ≡ false
direct-plain z d e = not-true d e

pub direct-names : {A : Type 0} (f : Form) (d : Bool) → f ≡ Names → is_direct f d ≡ true → A
direct-names f d q e = let y : false ≡ true = ap (λ (g : Form). is_direct g d) (sym q) ∙ e in let x : ◌≡◌ {A = ℕ} 0 1 = cc in absurd (omega arith)

-- names are not walked to
pub direct-other : (f : Form) (d : Bool) → is_direct f d ≡ true → is_names f ≡ false
direct-other (Plain z) d e = refl
direct-other (Packed z) d e = refl
direct-other (Runs r) d e = refl
direct-other Names d e = let y : ◌≡◌ {A = ℕ} 0 1 = cc in absurd (omega arith)

-- Laws of an encoder's plan: its refusals in their order, and which forms each kind has. Assumes nothing.
use Rattle.std.specs.Prelude.{◌≡◌, refl, Option, Some, None, Err, Bool, true, false, List, ℕ, ◌<◌, ◌≤◌, ℤ}
use Rattle.std.proofs.Common.{sym, ap₂, subst, ◌∙◌}
use Rattle.std.proofs.Math.Path.{ap}
use borrow.Author.Tests.{le-leb, lt-leb}
use Rattle.refusal.specs.Table.{codec_unknown, header_range}
use Rattle.steps.specs.declared.Size.TheVariants.{Four}
use Rattle.steps.specs.declared.Range.TheVariants.{Ascii}
use Rattle.steps.specs.declared.Form.{Form}
use Rattle.steps.specs.declared.Form.TheVariants.{Plain, Packed, Runs, Names}
use Rattle.steps.specs.Payload.{allowed}
use Rattle.columns.specs.declared.Kind.{Kind}
use Rattle.columns.specs.declared.Kind.TheVariants as kind
use Rattle.columns.specs.declared.Wanted.{Wanted}
use Rattle.columns.specs.declared.Wanted.TheVariants.{Only}
use Rattle.columns.specs.declared.Parameter.{Parameter}
use Rattle.columns.specs.declared.Codec.{Codec}
use Rattle.columns.specs.Table.{codec_with, table, codec_of, suits, length_limit, parameter_ok, used}
use Rattle.columns.specs.Encode.{results, whole_results, payload_of, plan_with, plan_by, plan_of}
use Rattle.columns.proofs.Laws.Encode.{plan-rules}
use Rattle.columns.proofs.Laws.Rows.{same_kind}
use Rattle.columns.proofs.Laws.CanHold.{Rows, row_at}
use Rattle.encoding.specs.Steps.{NumberKind, NumberForm}

-- The refusals

pub plan-unknown : (w : Wanted) (c m e : ℕ) → codec_of c ≡ None → plan_of w c m e ≡ Err codec_unknown
unfolding plan_of
plan-unknown w c m e q = ap (plan_by w m e) q

module _ {k : Kind} {f : Form} {d : Bool} {p : Parameter} (w : Wanted) (c m e : ℕ) (q : codec_of c ≡ codec_with k f d p) where
  pub plan-unwanted : suits w k ≡ false → plan_of w c m e ≡ Err codec_unknown
  unfolding plan_of
  plan-unwanted a = ap (plan_by w m e) q ∙ rw a

  pub plan-parameter : suits w k ≡ true → parameter_ok p m ≡ false → plan_of w c m e ≡ Err header_range
  unfolding plan_of
  plan-parameter a b = ap (plan_by w m e) q ∙ rw (a, b)

  pub plan-part : suits w k ≡ true → parameter_ok p m ≡ true → whole_results f m e ≡ false → plan_of w c m e ≡ Err header_range
  unfolding plan_of
  plan-part a b h = ap (plan_by w m e) q ∙ rw (a, b, h)

  pub plan-long : suits w k ≡ true → parameter_ok p m ≡ true → whole_results f m e ≡ true → length_limit < results f m e → plan_of w c m e ≡ Err header_range
  unfolding plan_of
  plan-long a b h l = ap (plan_by w m e) q ∙ rw (a, b, h, lt-leb (results f m e) length_limit l)

  pub plan-good : suits w k ≡ true → parameter_ok p m ≡ true → whole_results f m e ≡ true → results f m e ≤ length_limit → plan_of w c m e ≡ plan_with f d (results f m e) (used p m)
  unfolding plan_of
  plan-good a b h l = ap (plan_by w m e) q ∙ rw (a, b, h, le-leb (results f m e) length_limit l)

-- The forms of each kind

-- floats, names and letters have a form of their own
abbrev pub Row : Kind → Form → Bool → Type 0
Row kind.Float32 f d = (f ≡ Plain Four) × (d ≡ false)
Row kind.FixedPoint f d = NumberForm f d
Row kind.Int8 f d = NumberForm f d
Row kind.Int16 f d = NumberForm f d
Row kind.Int32 f d = NumberForm f d
Row kind.Strings f d = (f ≡ Names) × (d ≡ false)
Row kind.Chars f d = (f ≡ Runs Ascii) × (d ≡ false)

abbrev RowOf : Option Codec → Type 0
RowOf None = Unit {0}
RowOf (Some r) = Row r.kind r.form r.delta

rows : Rows (λ (i : ℕ). RowOf) table
rows = (tt, ((refl, refl), (refl, (refl, (refl, ((refl, refl), ((refl, refl), (tt, (tt, (tt, (tt, (refl, (tt, (tt, (tt, (tt, (tt, tt)))))))))))))))))

pub row : {f : Form} {d : Bool} {n v : ℕ} (k : Kind) (c m e : ℕ) → plan_of (Only k) c m e ≡ plan_with f d n v → Row k f d
unfolding codec_of
row {f} {d} k c m e q =
    let r = plan-rules (Only k) c m e q in
    subst (λ (i : Kind). Row i f d) (sym (same_kind k r.kind r.suited)) (subst RowOf r.known (row_at (λ (i : ℕ). RowOf) table rows (λ i. tt) c))

-- a number's kind has a number's form
pub number-row : (f : Form) (d : Bool) (k : Kind) → NumberKind k → Row k f d → NumberForm f d
number-row f d kind.Float32 h r = absurd h
number-row f d kind.FixedPoint h r = r
number-row f d kind.Int8 h r = r
number-row f d kind.Int16 h r = r
number-row f d kind.Int32 h r = r
number-row f d kind.Strings h r = absurd h
number-row f d kind.Chars h r = absurd h

-- only names look at the parameter
pub number-allowed : (f : Form) (d : Bool) (m : ℕ) (xs : List ℤ) → NumberForm f d → allowed f 0 xs ≡ allowed f m xs
number-allowed (Plain z) d m xs h = refl
number-allowed (Packed z) d m xs h = refl
number-allowed (Runs r) d m xs h = refl
number-allowed Names d m xs h = absurd h

-- floats, names and characters are placed in the one form that their kind has
pub one_form : {f f₀ : Form} {d d₀ : Bool} (m : ℕ) (xs : List ℤ) → (f ≡ f₀) × (d ≡ d₀) → (allowed f₀ m xs ≡ allowed f m xs) × (payload_of f₀ d₀ xs ≡ payload_of f d xs)
one_form m xs r = (ap (λ (g : Form). allowed g m xs) (sym r.0), ap₂ (λ (g : Form) (b : Bool). payload_of g b xs) (sym r.0) (sym r.1))

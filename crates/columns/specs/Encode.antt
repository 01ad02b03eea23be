-- Encoding: the bytes of a column in the writer's form, once for all sixteen codecs, with its refusals in their order: 15 and 16 by the plan,
-- then 18. The letters are those of Table; m is the parameter that is asked for, and v what the header has for it. No lemma stands here: the
-- laws are in Laws/Encode.antt. Assumes nothing.
use Rattle.std.specs.Prelude.{Option, Some, None, Result, Ok, Err, Bool, true, cond, List, [], ◌∷◌, ◌++◌, ℕ, zero, suc, ◌/◌, ◌%◌, length, ℤ, eqb, leb}
use Rattle.refusal.specs.Table.{codec_unknown, header_range, number_not_allowed}
use Rattle.refusal.specs.First.{unless, first}
use Rattle.steps.specs.declared.Form.{Form}
use Rattle.steps.specs.declared.Form.TheVariants.{Plain, Packed, Runs, Names}
use Rattle.steps.specs.Numbers.{bytes_for}
use Rattle.steps.specs.Delta.{deltas_if}
use Rattle.steps.specs.Payload.{number_size, numbers_for, allowed}
use Rattle.columns.specs.declared.Kind.{Kind}
use Rattle.columns.specs.declared.Wanted.{Wanted}
use Rattle.columns.specs.declared.Parameter.{Parameter}
use Rattle.columns.specs.declared.Codec.{Codec}
use Rattle.columns.specs.declared.Plan.{Plan}
use Rattle.columns.specs.Table.{codec_of, suits, length_limit, parameter_ok, used}
use Rattle.columns.specs.Header.{header_bytes}

-- what a column encodes to: a refusal, or its bytes
pub data Encoding : Type 0 where
  refused : ℕ → Encoding
  bytes : List ℕ → Encoding

-- the results of a column of e elements: of names, as many as fill e bytes with the size m
abbrev pub results : Form → ℕ → ℕ → ℕ
results (Plain z) m e = e
results (Packed z) m e = e
results (Runs r) m e = e
results Names m e = e / m

-- whether e elements are whole results
abbrev pub whole_results : Form → ℕ → ℕ → Bool
whole_results (Plain z) m e = true
whole_results (Packed z) m e = true
whole_results (Runs r) m e = true
whole_results Names m e = eqb (e % m) 0

-- the payload of cells
unfoldable pub payload_of : Form → Bool → List ℤ → List ℕ
payload_of f d xs = bytes_for (number_size f) (numbers_for f (deltas_if d xs))

-- The plan

-- the numbers of the rules that an encoder judges before the cells, in their order: the codec is of the kind that is wanted, the parameter is
-- one that it may have, and e elements are whole results and not too many
abbrev pub plan_rules : Wanted → Kind → Form → Parameter → ℕ → ℕ → List ℕ
plan_rules w k f p m e =
    unless (suits w k) codec_unknown
    ∷ unless (parameter_ok p m) header_range
    ∷ unless (whole_results f m e) header_range
    ∷ unless (leb (results f m e) length_limit) header_range
    ∷ []

-- a plan by its form, delta, length and parameter
abbrev pub plan_with : Form → Bool → ℕ → ℕ → Result Plan ℕ
plan_with f d n v = Ok (record { form = f; delta = d; length = n; parameter = v })

-- a plan where no rule is broken, and else the refusal
abbrev pub unless_refused : ℕ → Result Plan ℕ → Result Plan ℕ
unless_refused zero plan = plan
unless_refused (suc r) plan = Err (suc r)

-- what an encoder will do by its codec's row: the form, delta, and the length and the parameter as the header has them; or the refusal
abbrev pub plan_by : Wanted → ℕ → ℕ → Option Codec → Result Plan ℕ
plan_by w m e None = Err codec_unknown
plan_by w m e (Some r) = unless_refused (first (plan_rules w r.kind r.form r.parameter m e)) (plan_with r.form r.delta (results r.form m e) (used r.parameter m))

unfoldable pub plan_of : Wanted → ℕ → ℕ → ℕ → Result Plan ℕ
plan_of w c m e = plan_by w m e (codec_of c)

-- The encoding

-- what the plan comes to for the cells xs: 18, or the bytes
abbrev pub encoded_by : ℕ → ℕ → List ℤ → Result Plan ℕ → Encoding
encoded_by c m xs (Err r) = refused r
encoded_by c m xs (Ok p) = cond (allowed p.form m xs) (bytes (header_bytes c p.length p.parameter ++ payload_of p.form p.delta xs)) (refused number_not_allowed)

-- the column xs by the codec c with the parameter m
unfoldable pub encode : Wanted → ℕ → ℕ → List ℤ → Encoding
encode w c m xs = encoded_by c m xs (plan_of w c m (length xs))

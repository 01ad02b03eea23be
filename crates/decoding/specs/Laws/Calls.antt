-- Laws of the decoders: the divisor of fixed point. Assumes nothing.
use Rattle.std.specs.Prelude.{Result, ◌≡◌, List, ℕ}
use Rattle.std.proofs.Common.{sym, ap, ◌∙◌}
use Rattle.numbers.specs.BigEndian.{unsigned_at}
use Rattle.columns.specs.declared.Kind.TheVariants as kind
use Rattle.columns.specs.declared.Wanted.TheVariants.{Only}
use Rattle.columns.specs.declared.Parameter.{Parameter}
use Rattle.columns.specs.declared.Parameter.TheVariants.{Divisor}
use Rattle.columns.specs.Table.{used}
use Rattle.columns.specs.Decode.{Decoding, refused, column, decode}
use Rattle.columns.specs.Buffer.{decoded_answer}
use Rattle.columns.proofs.Laws.Decode.{decode-rules, decode-kind}
use Rattle.columns.proofs.Laws.CanHold.{parameter_of, kind-parameter}
use Rattle.decoding.specs.Calls.{with_divisor, fixed_answer}

-- the divisor of a fixed point column stands in its header
pub fixed-divisor : (s : List ℕ) (x : Decoding) (room : ℕ) (r : Result ℕ ℕ) → x ≡ decode (Only kind.FixedPoint) s → r ≡ decoded_answer x room → with_divisor (unsigned_at 4 s 8) r ≡ fixed_answer x room
fixed-divisor s (refused q) room r e h = rw h
fixed-divisor s (column k m l) room r e h =
    let d = decode-rules (Only kind.FixedPoint) s k m l (sym e) in
    let g : k ≡ kind.FixedPoint = decode-kind kind.FixedPoint k s m l (sym e) in
    let p : d.parameter ≡ Divisor = sym (kind-parameter k d.form d.delta d.parameter (unsigned_at 4 s 0) d.known) ∙ ap parameter_of g in
    let u : unsigned_at 4 s 8 ≡ m = ap (λ (i : Parameter). used i (unsigned_at 4 s 8)) (sym p) ∙ d.parameter-read in
    rw (h, u)

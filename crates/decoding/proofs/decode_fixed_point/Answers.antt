-- The integers' answer, with the divisor that stands in the header (`fixed-divisor`).
use mathlib.Core.Path.{refl, sym, ap, ◌∙◌}
use lib.ListN.{length}
use lib.IntN.{ℤ}
use Prim.Native.Nat.{ℕ}
use mir.Syntax.{w32}
use mir.Facts.{to_z-of_z}
use Rattle.std.specs.Prelude.{Result, Ok}
use Rattle.refusal.specs.Outcome.{numbered}
use Rattle.numbers.specs.BigEndian.{signed_at}
use Rattle.columns.specs.declared.Kind.TheVariants as kind
use Rattle.columns.specs.declared.Wanted.TheVariants.{Only}
use Rattle.columns.specs.Decode.{decode}
use Rattle.decoding.specs.Laws.Calls.{fixed-divisor}
use Rattle.decoding.proofs.decode_fixed_point.Goals as goal

pub returns : goal.returns
unfolding signed_at
returns c =
    let a = c.args in
    let n = c.in_ok-count.count in
    let e = c.decode_integers.ensures in
    let v = to_z-of_z {w = w32} (record { sfits = c.read_i32.type_inv }) ∙ c.read_i32.ensures in
    let d = fixed-divisor a.column.now (decode (Only kind.FixedPoint) a.column.now) (length a.buffer.now) (Ok n) refl (sym (ap numbered c.in_ok-count.was) ∙ e.answer) in
    record { answer = ap (λ (z : ℤ). ok n z) v ∙ d; buffer = e.buffer }
  where
    ok : ℕ → ℤ → Result (ℕ × ℤ) ℕ
    ok n z = Ok (n, z)

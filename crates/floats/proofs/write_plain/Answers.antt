-- The quotients of the numbers before the place stand at the buffer's start (`plain-next`); at the end, all do (`plain-wrote`).
use mathlib.Core.Path.{◌≡◌, ap, ap₂, ◌∙◌}
use Prim.Native.Nat.{ℕ, ◌+◌, ◌-◌, ◌*◌, ◌≤◌}
use native.Mathlib.Omega.{arith}
use lib.ListN.{length, take, drop, length-set}
use mir.Syntax.{w32}
use mir.Facts.{to_z-of_z}
use Rattle.numbers.specs.BigEndian.{signed_at}
use Rattle.steps.specs.Width.{width_of, size_of}
use Rattle.payloads.specs.Laws.Plain.{plain-inside, plain-exact-at, plain-next, plain-wrote}
use Rattle.floats.specs.Steps.{bits_by}
use Rattle.floats.proofs.write_plain.Lts as lts
use Rattle.floats.proofs.write_plain.Reads as reads
use Rattle.floats.proofs.write_plain.Tie as tie
use Rattle.floats.proofs.write_plain.Goals as goal

-- the bytes of the next number are inside
inside : (c : lts.In-loop tie.the-claims reads.Pre reads.Post goal.the-invariant-loop-i goal.the-decreases-loop-i) → c.loop-i.i * c.bytes-k.result + c.bytes-k.result ≤ length c.args.payload.now
inside c =
    let a = c in
    rw c.bytes-k.ensures (plain-inside (bits_by a.args.divisor) a.args.size a.args.payload.now a.args.n a.requires.0 c.loop-i.i (omega arith))

-- the number that was read
number : (c : lts.After-number_at tie.the-claims reads.Pre reads.Post goal.the-invariant-loop-i goal.the-decreases-loop-i)
    → c.number_at.result ≡ signed_at (width_of c.args.size) (take (size_of c.args.size) (drop (c.loop-i.i * size_of c.args.size) c.args.payload.now)) 0
number c =
    let a = c in
    let p = c.loop-i in
    let k = c.bytes-k in
    let m : p.i * k.result + k.result - p.i * k.result ≡ size_of a.args.size = omega (arith, k.ensures) in
    c.number_at.ensures ∙ ap₂ (λ (i j : ℕ). signed_at (width_of a.args.size) (take i (drop j a.args.payload.now)) 0) m (ap (λ (i : ℕ). p.i * i) k.ensures)

pub slice_bounds-number_at-end : goal.slice_bounds-number_at-end
slice_bounds-number_at-end c = omega (arith, inside c.before)

pub quotient_bits-requires : goal.quotient_bits-requires
quotient_bits-requires c =
    let a = c in
    let p = c.loop-i in
    (rw (to_z-of_z {w = w32} (record { sfits = c.number_at.type_inv })) (plain-exact-at (bits_by a.args.divisor) a.args.size a.args.payload.now a.args.n a.requires.0 p.i (omega arith) c.number_at.result (number c.before) a.requires.2), a.requires.3)

pub loop-i-preserved : goal.loop-i-preserved
loop-i-preserved c =
    let a = c in
    let p = c.loop-i in
    let b = c.quotient_bits.ensures ∙ ap (bits_by a.args.divisor) (to_z-of_z {w = w32} (record { sfits = c.number_at.type_inv })) in (
      omega arith,
      length-set p.buffer p.i _ ∙ p.invariant.1,
      (λ held. plain-next (bits_by a.args.divisor) a.args.size a.args.payload.now a.args.n held p.i (omega arith) c.number_at.result (number c.before.before) a.args.buffer.now p.buffer _ a.requires.1 b (p.invariant.2 held)),
    )

pub returns : goal.returns
returns c =
    let a = c in
    let p = c.loop-i in
    plain-wrote (bits_by a.args.divisor) a.args.size a.args.payload.now a.args.n a.requires.0 a.args.buffer.now p.buffer p.i (omega arith) (p.invariant.2 a.requires.0)

-- The numbers before the place stand at the buffer's start (`plain-next`), where those before the first did.
use mathlib.Core.Path.{◌≡◌, ap, ap₂, ◌∙◌}
use Prim.Native.Nat.{ℕ, ◌+◌, ◌-◌, ◌*◌, ◌≤◌}
use native.Mathlib.Omega.{arith}
use lib.ListN.{length, take, drop, length-set}
use mir.Syntax.{w32}
use mir.Facts.{to_z-of_z}
use Rattle.numbers.specs.BigEndian.{signed_at}
use Rattle.steps.specs.Width.{width_of, size_of}
use Rattle.payloads.specs.Laws.Plain.{plain-inside, plain-next}
use Rattle.decoding.specs.Calls.{as_number}
use Rattle.decoding.proofs.write_part.Lts as lts
use Rattle.decoding.proofs.write_part.Reads as reads
use Rattle.decoding.proofs.write_part.Tie as tie
use Rattle.decoding.proofs.write_part.Goals as goal

-- the bytes of the next number are inside
inside : (c : lts.In-loop tie.the-claims reads.Pre reads.Post goal.the-invariant-loop-i goal.the-decreases-loop-i) → c.loop-i.i * c.bytes-k.result + c.bytes-k.result ≤ length c.args.payload.now
inside c =
    let a = c in
    let h = a.requires.0 in
    rw c.bytes-k.ensures (plain-inside as_number a.args.size a.args.payload.now h.0 h.1 c.loop-i.i (omega (arith, h.2)))

pub slice_bounds-number_at-end : goal.slice_bounds-number_at-end
slice_bounds-number_at-end c = omega (arith, inside c.before)

pub loop-i-preserved : goal.loop-i-preserved
loop-i-preserved c =
    let a = c in
    let h = a.requires.0 in
    let p = c.loop-i in
    let s = a.args.payload.now in
    let k = c.bytes-k in
    let m : p.i * k.result + k.result - p.i * k.result ≡ size_of a.args.size = omega (arith, k.ensures) in
    let e = c.number_at.ensures ∙ ap₂ (λ (i j : ℕ). signed_at (width_of a.args.size) (take i (drop j s)) 0) m (ap (λ (i : ℕ). p.i * i) k.ensures) in (
      omega arith,
      length-set p.buffer p.i _ ∙ p.invariant.1,
      (λ old l w. plain-next as_number a.args.size s h.0 h.1 p.i (omega (arith, h.2)) c.number_at.result e old p.buffer _ (omega (arith, h.3, l)) (to_z-of_z {w = w32} (record { sfits = c.number_at.type_inv })) (p.invariant.2 old l w)),
    )

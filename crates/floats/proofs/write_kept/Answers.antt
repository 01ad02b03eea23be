-- The bits of the numbers before the place stand at the buffer's start (`plain-next`); at the end, all do (`plain-wrote`).
use mathlib.Core.Path.{◌≡◌, refl, sym, ap, ◌∙◌}
use Prim.Native.Nat.{ℕ, ◌+◌, ◌-◌, ◌*◌, ◌≤◌, ◌<◌}
use native.Mathlib.Omega.{arith}
use lib.ListN.{length, take, drop, length-set}
use mir.Syntax.{w32}
use mir.Facts.{of_z-to_z}
use Rattle.numbers.specs.BigEndian.{signed_at, unsigned_at}
use Rattle.steps.specs.declared.Size.TheVariants.{Four}
use Rattle.payloads.specs.Laws.Plain.{plain-inside, plain-next, plain-wrote}
use Rattle.floats.specs.Calls.{kept}
use Rattle.floats.proofs.write_kept.Lts as lts
use Rattle.floats.proofs.write_kept.Reads as reads
use Rattle.floats.proofs.write_kept.Tie as tie
use Rattle.floats.proofs.write_kept.Goals as goal

-- the bytes of the next number are inside
inside : (c : lts.In-loop tie.the-claims reads.Pre reads.Post goal.the-invariant-loop-i goal.the-decreases-loop-i) → c.loop-i.i * 4 + 4 ≤ length c.args.payload.now
inside c = let a = c in plain-inside kept Four a.args.payload.now a.args.n a.requires.0 c.loop-i.i (omega arith)

pub slice_bounds-read_u32-end : goal.slice_bounds-read_u32-end
slice_bounds-read_u32-end c = omega (arith, inside c.before)

pub loop-i-preserved : goal.loop-i-preserved
unfolding signed_at
loop-i-preserved c =
    let a = c in
    let p = c.loop-i in
    let s = a.args.payload.now in
    let m : p.i * 4 + 4 - p.i * 4 ≡ 4 = omega arith in
    let e = c.read_u32.ensures ∙ ap (λ (i : ℕ). unsigned_at 4 (take i (drop (p.i * 4) s)) 0) m in
    let u : unsigned_at 4 (take 4 (drop (p.i * 4) s)) 0 < 4294967296 = omega (arith, e, c.read_u32.type_inv) in
    let b = e ∙ sym (of_z-to_z {w = w32} {n = unsigned_at 4 (take 4 (drop (p.i * 4) s)) 0} (record { fits = u })) in (
      omega arith,
      length-set p.buffer p.i _ ∙ p.invariant.1,
      (λ held. plain-next kept Four s a.args.n held p.i (omega arith) (signed_at w32 (take 4 (drop (p.i * 4) s)) 0) refl a.args.buffer.now p.buffer _ a.requires.1 b (p.invariant.2 held)),
    )

pub returns : goal.returns
returns c =
    let a = c in
    let p = c.loop-i in
    plain-wrote kept Four a.args.payload.now a.args.n a.requires.0 a.args.buffer.now p.buffer p.i (omega arith) (p.invariant.2 a.requires.0)

-- The blocks before the place stand at the buffer's start; at the end, all numbers do (`plain-wrote`).
use mathlib.Core.Path.{refl, sym}
use native.Mathlib.Omega.{arith}
use Rattle.payloads.specs.Laws.Plain.{plain-wrote}
use Rattle.decoding.specs.Calls.{as_number}
use Rattle.decoding.proofs.write_plain.Goals as goal

pub write_part-requires : goal.write_part-requires
write_part-requires c = let a = c in let i = c.loop-i.invariant in ((a.args.n, a.requires.0, omega arith, omega (arith, i.1, a.requires.1)), omega arith)

pub returns : goal.returns
returns c =
    let a = c in
    let p = c.loop-i in
    plain-wrote as_number a.args.size a.args.payload.now a.args.n a.requires.0 a.args.buffer.now _ a.args.n refl (c.write_part-2.ensures a.args.buffer.now (sym p.invariant.1) p.invariant.2)

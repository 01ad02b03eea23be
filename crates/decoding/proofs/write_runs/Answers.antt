-- The runs before the place stand at the buffer's start, and beyond the results nothing has changed (`begun-run`).
use mathlib.Core.Path.{◌≡◌, sym, ap, ◌∙◌}
use mathlib.Core.Option.{map}
use mathlib.Core.List.{List, ◌++◌}
use Prim.Native.Nat.{◌+◌, ◌≤◌}
use native.Mathlib.Nat.{add-zero}
use native.Mathlib.Omega.{arith}
use lib.ListN.{length, drop, replicate}
use lib.IntN.{ℤ}
use mir.Syntax.{w32}
use mir.Val.{to_z, of_z}
use mir.Facts.{to_z-of_z, of_z-to_z}
use Rattle.numbers.specs.BigEndian.{signed_at}
use Rattle.steps.specs.declared.Range.{Range}
use Rattle.steps.specs.declared.Form.TheVariants.{Runs}
use Rattle.steps.specs.Payload.{read_in}
use Rattle.payloads.specs.Results.{HasResults}
use Rattle.payloads.specs.Laws.Items.{runs-end}
use Rattle.payloads.specs.Laws.Runs.{run-here, begun-rest, begun-room, begun-run, begun-end, part-number}
use Rattle.decoding.specs.Calls.{as_number}
use Rattle.decoding.proofs.write_runs.Lts as lts
use Rattle.decoding.proofs.write_runs.Reads as reads
use Rattle.decoding.proofs.write_runs.Tie as tie
use Rattle.decoding.proofs.write_runs.Goals as goal

-- the count that was read
count : (c : lts.After-read_u32 tie.the-claims reads.Pre reads.Post goal.the-invariant-loop-at goal.the-decreases-loop-at) → c.read_u32-count.result ≡ of_z w32 (signed_at w32 c.args.payload.now (c.loop-at.at + 4))
unfolding signed_at
count c =
    sym (of_z-to_z {w = w32} (record { fits = c.read_u32-count.type_inv })) ∙ ap (of_z w32) (ap (to_z w32) c.read_u32-count.ensures ∙ part-number c.args.payload.now c.loop-at.at 4 (omega arith))

-- the run at the place
here : (c : lts.After-read_u32 tie.the-claims reads.Pre reads.Post goal.the-invariant-loop-at goal.the-decreases-loop-at) (r : Range) → HasResults (Runs r) c.args.payload.now c.args.n
    → read_in (Runs r) (drop c.loop-at.at c.args.payload.now)
    ≡ map (λ (l : List ℤ). replicate c.read_u32-count.result (signed_at w32 c.args.payload.now c.loop-at.at) ++ l) (read_in (Runs r) (drop (c.loop-at.at + 8) c.args.payload.now))
here c r held =
    let a = c in
    let p = c.loop-at in
    let t = begun-rest as_number (Runs r) a.args.payload.now a.args.buffer.now a.args.n held a.requires.1 p.at p.o p.buffer (p.invariant.1 r held a.requires.1) in
    rw (count c) (run-here r a.args.payload.now p.at t.0 (omega arith) t.1).1

-- there is room for it
has_room : (c : lts.After-read_u32 tie.the-claims reads.Pre reads.Post goal.the-invariant-loop-at goal.the-decreases-loop-at) → (c.loop-at.o + c.read_u32-count.result ≤ c.args.n) × (length c.loop-at.buffer ≡ length c.args.buffer.now)
has_room c =
    let a = c in
    let p = c.loop-at in
    let w = p.invariant.1 a.args.range a.requires.0 a.requires.1 in
    (begun-room as_number (Runs a.args.range) a.args.payload.now a.args.buffer.now a.args.n a.requires.0 a.requires.1 p.at p.o p.buffer w (signed_at w32 a.args.payload.now p.at) c.read_u32-count.result (p.at + 8) (here c a.args.range a.requires.0), w.3)

pub overflow_sub-n : goal.overflow_sub-n
overflow_sub-n c = let r = has_room c.before.before in omega (arith, r.0)

pub write_run-requires : goal.write_run-requires
write_run-requires c = let r = has_room c.before.before in let k = c.requires.1 in (omega (arith, r.0, r.1), omega (arith, r.0, r.1))

pub loop-at-preserved : goal.loop-at-preserved
loop-at-preserved c =
    let a = c in
    let p = c.loop-at in
    let v = to_z-of_z {w = w32} (record { sfits = c.read_i32-value.type_inv }) ∙ c.read_i32-value.ensures ∙ part-number a.args.payload.now p.at 0 (omega arith) ∙ ap (signed_at w32 a.args.payload.now) (add-zero p.at) in (
      omega arith,
      (λ r held room. begun-run as_number (Runs r) a.args.payload.now a.args.buffer.now a.args.n held room p.at p.o p.buffer (p.invariant.1 r held room) (signed_at w32 a.args.payload.now p.at) c.read_u32-count.result (p.at + 8) (here c.before.before.before.before r held) c.write_run.new.buffer (rw v at c.write_run.ensures)),
    )

pub returns : goal.returns
returns c =
    let a = c in
    let p = c.loop-at in
    begun-end as_number (Runs a.args.range) a.args.payload.now a.args.buffer.now a.args.n a.requires.0 a.requires.1 p.at p.o p.buffer (p.invariant.1 a.args.range a.requires.0 a.requires.1) (runs-end a.args.range a.args.payload.now p.at (omega arith))

-- The sums of the runs before the place stand at the buffer's start (`written-run`); where the runs end, all do.
use mathlib.Core.Path.{◌≡◌, sym, ap, subst, ◌∙◌}
use mathlib.Core.Bool.{true}
use mathlib.Core.Option.{map}
use mathlib.Core.List.{List, ◌++◌}
use Prim.Native.Nat.{◌+◌, ◌≤◌}
use native.Mathlib.Nat.{add-zero}
use native.Mathlib.Omega.{arith}
use lib.ListN.{length, drop, replicate}
use lib.IntN.{ℤ}
use mir.Syntax.{w32}
use mir.Val.{to_z, of_z}
use mir.Facts.{to_z-of_z, of_z-to_z}
use Rattle.numbers.specs.BigEndian.{signed_at}
use Rattle.steps.specs.declared.Range.{Range}
use Rattle.steps.specs.declared.Form.TheVariants.{Runs}
use Rattle.steps.specs.Payload.{read_in}
use Rattle.payloads.specs.Results.{Filled, HasRoom}
use Rattle.payloads.specs.Laws.Items.{runs-end}
use Rattle.payloads.specs.Laws.Runs.{run-here, part-number}
use Rattle.payloads.specs.Laws.Writing.{written_start, written-rest, written-length, written-room, written-run, written-end}
use Rattle.decoding.specs.Calls.{as_number}
use Rattle.decoding.proofs.write_sums.Lts as lts
use Rattle.decoding.proofs.write_sums.Reads as reads
use Rattle.decoding.proofs.write_sums.Tie as tie
use Rattle.decoding.proofs.write_sums.Goals as goal

-- the count that was read
count : (c : lts.After-read_u32 tie.the-claims reads.Pre reads.Post goal.the-invariant-loop-at goal.the-decreases-loop-at) → c.read_u32-count.result ≡ of_z w32 (signed_at w32 c.args.payload.now (c.loop-at.at + 4))
unfolding signed_at
count c =
    sym (of_z-to_z {w = w32} (record { fits = c.read_u32-count.type_inv })) ∙ ap (of_z w32) (ap (to_z w32) c.read_u32-count.ensures ∙ part-number c.args.payload.now c.loop-at.at 4 (omega arith))

-- the run at the place
here : (c : lts.After-read_u32 tie.the-claims reads.Pre reads.Post goal.the-invariant-loop-at goal.the-decreases-loop-at) (r : Range) → HasRoom (Runs r) c.args.payload.now (length c.args.buffer.now)
    → read_in (Runs r) (drop c.loop-at.at c.args.payload.now)
    ≡ map (λ (l : List ℤ). replicate c.read_u32-count.result (signed_at w32 c.args.payload.now c.loop-at.at) ++ l) (read_in (Runs r) (drop (c.loop-at.at + 8) c.args.payload.now))
here c r room =
    let a = c in
    let p = c.loop-at in
    let t = written-rest as_number (Runs r) true a.args.payload.now a.args.buffer.now room (read_in (Runs r) (drop p.at a.args.payload.now)) p.o p.buffer (to_z w32 p.sum-bits) (p.invariant.1 r room) in
    rw (count c) (run-here r a.args.payload.now p.at t.0 (omega arith) t.1).1

-- there is room for it
has_room : (c : lts.After-read_u32 tie.the-claims reads.Pre reads.Post goal.the-invariant-loop-at goal.the-decreases-loop-at) → (c.loop-at.o + c.read_u32-count.result ≤ length c.loop-at.buffer) × (length c.loop-at.buffer ≡ length c.args.buffer.now)
has_room c =
    let a = c in
    let p = c.loop-at in
    let w = p.invariant.1 a.args.range a.requires in (
      written-room as_number (Runs a.args.range) true a.args.payload.now a.args.buffer.now a.requires (read_in (Runs a.args.range) (drop p.at a.args.payload.now)) p.o p.buffer (to_z w32 p.sum-bits) w (signed_at w32 a.args.payload.now p.at) c.read_u32-count.result (read_in (Runs a.args.range) (drop (p.at + 8) a.args.payload.now)) (here c a.args.range a.requires),
      written-length as_number (Runs a.args.range) true a.args.payload.now a.args.buffer.now a.requires (read_in (Runs a.args.range) (drop p.at a.args.payload.now)) p.o p.buffer (to_z w32 p.sum-bits) w,
    )

pub loop-at-init : goal.loop-at-init
loop-at-init c = let a = c.args in (omega arith, (λ r room. written_start as_number (Runs r) true a.payload.now a.buffer.now room))

pub fill_sums-sum-requires : goal.fill_sums-sum-requires
fill_sums-sum-requires c = (has_room c.before.before).0

pub overflow_add-o : goal.overflow_add-o
overflow_add-o c = let r = has_room c.before.before.before.before in omega (arith, r.0)

pub loop-at-preserved : goal.loop-at-preserved
loop-at-preserved c =
    let a = c in
    let p = c.loop-at in
    let f = c.fill_sums-sum in
    let n = c.read_u32-count.result in
    let v = to_z-of_z {w = w32} (record { sfits = c.read_i32-value.type_inv }) ∙ c.read_i32-value.ensures ∙ part-number a.args.payload.now p.at 0 (omega arith) ∙ ap (signed_at w32 a.args.payload.now) (add-zero p.at) in
    let x = to_z-of_z {w = w32} (record { sfits = c.fill_sums-sum.type_inv }) in
    let e = subst (λ (z : ℤ). Filled as_number true (to_z w32 p.sum-bits) (signed_at w32 a.args.payload.now p.at) p.buffer p.o n f.new.buffer z) (sym x) (rw v at f.ensures) in (
      omega arith,
      (λ r room. written-run as_number (Runs r) true a.args.payload.now a.args.buffer.now room (read_in (Runs r) (drop p.at a.args.payload.now)) p.o p.buffer (to_z w32 p.sum-bits) (p.invariant.1 r room) (signed_at w32 a.args.payload.now p.at) n (read_in (Runs r) (drop (p.at + 8) a.args.payload.now)) (here c.before.before.before.before r room) f.new.buffer (to_z w32 (of_z w32 f.result)) e),
    )

pub returns : goal.returns
returns c =
    let a = c in
    let p = c.loop-at in
    written-end as_number (Runs a.args.range) true a.args.payload.now a.args.buffer.now a.requires (read_in (Runs a.args.range) (drop p.at a.args.payload.now)) p.o p.buffer (to_z w32 p.sum-bits) (p.invariant.1 a.args.range a.requires) (runs-end a.args.range a.args.payload.now p.at (omega arith))

-- The runs before the place stand at the buffer's start, and beyond the results nothing has changed (`begun-run`).
use mathlib.Core.Path.{◌≡◌, sym, ap, ◌∙◌}
use mathlib.Core.Option.{map}
use mathlib.Core.List.{List, ◌++◌}
use Prim.Native.Nat.{ℕ, ◌+◌, ◌%◌, ◌≤◌}
use native.Mathlib.Nat.{add-zero}
use native.Mathlib.Omega.{arith}
use lib.ListN.{length, drop, replicate}
use lib.IntN.{ℤ}
use mir.Syntax.{w32}
use mir.Val.{to_z, of_z}
use mir.Facts.{of_z-to_z}
use Rattle.numbers.specs.BigEndian.{signed_at}
use Rattle.steps.specs.declared.Range.TheVariants.{Ascii}
use Rattle.steps.specs.declared.Form.TheVariants.{Runs}
use Rattle.steps.specs.Payload.{read_in}
use Rattle.payloads.specs.Results.{HasResults}
use Rattle.payloads.specs.Laws.Items.{runs-end}
use Rattle.payloads.specs.Laws.Runs.{run-here, begun-rest, begun-room, begun-run, begun-end, part-number}
use Rattle.decoding.specs.Calls.{as_byte}
use Rattle.decoding.proofs.write_chars.Lts as lts
use Rattle.decoding.proofs.write_chars.Reads as reads
use Rattle.decoding.proofs.write_chars.Tie as tie
use Rattle.decoding.proofs.write_chars.Goals as goal

-- the count that was read
count : (c : lts.After-read_u322 tie.the-claims reads.Pre reads.Post goal.the-invariant-loop-at goal.the-decreases-loop-at) → c.read_u32-count.result ≡ of_z w32 (signed_at w32 c.args.payload.now (c.loop-at.at + 4))
unfolding signed_at
count c =
    sym (of_z-to_z {w = w32} (record { fits = c.read_u32-count.type_inv })) ∙ ap (of_z w32) (ap (to_z w32) c.read_u32-count.ensures ∙ part-number c.args.payload.now c.loop-at.at 4 (omega arith))

-- the run at the place
here : (c : lts.After-read_u322 tie.the-claims reads.Pre reads.Post goal.the-invariant-loop-at goal.the-decreases-loop-at) → HasResults (Runs Ascii) c.args.payload.now c.args.n
    → read_in (Runs Ascii) (drop c.loop-at.at c.args.payload.now)
    ≡ map (λ (l : List ℤ). replicate c.read_u32-count.result (signed_at w32 c.args.payload.now c.loop-at.at) ++ l) (read_in (Runs Ascii) (drop (c.loop-at.at + 8) c.args.payload.now))
here c held =
    let a = c in
    let p = c.loop-at in
    let t = begun-rest as_byte (Runs Ascii) a.args.payload.now a.args.buffer.now a.args.n held a.requires.1 p.at p.o p.buffer (p.invariant.1 held a.requires.1) in
    rw (count c) (run-here Ascii a.args.payload.now p.at t.0 (omega arith) t.1).1

-- there is room for it
has_room : (c : lts.After-read_u322 tie.the-claims reads.Pre reads.Post goal.the-invariant-loop-at goal.the-decreases-loop-at) → (c.loop-at.o + c.read_u32-count.result ≤ c.args.n) × (length c.loop-at.buffer ≡ length c.args.buffer.now)
has_room c =
    let a = c in
    let p = c.loop-at in
    let w = p.invariant.1 a.requires.0 a.requires.1 in
    (begun-room as_byte (Runs Ascii) a.args.payload.now a.args.buffer.now a.args.n a.requires.0 a.requires.1 p.at p.o p.buffer w (signed_at w32 a.args.payload.now p.at) c.read_u32-count.result (p.at + 8) (here c a.requires.0), w.3)

pub overflow_sub-n : goal.overflow_sub-n
overflow_sub-n c = let r = has_room c.before.before in omega (arith, r.0)

pub write_byte-requires : goal.write_byte-requires
write_byte-requires c = let r = has_room c.before.before in let k = c.requires.1 in (omega (arith, r.0, r.1), omega (arith, r.0, r.1))

pub loop-at-preserved : goal.loop-at-preserved
unfolding signed_at
loop-at-preserved c =
    let a = c in
    let p = c.loop-at in
    let v = c.low_byte-byte.ensures ∙ ap (λ (n : ℕ). n % 256) (sym (of_z-to_z {w = w32} (record { fits = c.read_u32.type_inv }))) ∙ ap as_byte (ap (to_z w32) c.read_u32.ensures ∙ part-number a.args.payload.now p.at 0 (omega arith) ∙ ap (signed_at w32 a.args.payload.now) (add-zero p.at)) in (
      omega arith,
      (λ held room. begun-run as_byte (Runs Ascii) a.args.payload.now a.args.buffer.now a.args.n held room p.at p.o p.buffer (p.invariant.1 held room) (signed_at w32 a.args.payload.now p.at) c.read_u32-count.result (p.at + 8) (here c.before.before.before.before.before held) c.write_byte.new.buffer (rw v at c.write_byte.ensures)),
    )

pub returns : goal.returns
returns c =
    let a = c in
    let p = c.loop-at in
    begun-end as_byte (Runs Ascii) a.args.payload.now a.args.buffer.now a.args.n a.requires.0 a.requires.1 p.at p.o p.buffer (p.invariant.1 a.requires.0 a.requires.1) (runs-end Ascii a.args.payload.now p.at (omega arith))

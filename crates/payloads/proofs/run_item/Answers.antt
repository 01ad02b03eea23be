-- A value and its count, each judged. Both are read from the part of the payload from the place on (`part-number`).
use Rattle.std.proofs.Common.{◌≡◌, ◌+◌, true, ℤ, pos, nat_abs, sym, ap, ◌∙◌, add-zero, arith, to_z-of_z, w32, to_z, of_z}
use lib.Signed.{lt_z}
use Rattle.numbers.specs.BigEndian.{signed_at}
use Rattle.steps.specs.Payload.{in_range}
use Rattle.payloads.specs.Laws.Items.{count_bits, run_short, run-item}
use Rattle.payloads.specs.Laws.Runs.{part-number}
use Rattle.payloads.proofs.run_item.Lts as lts
use Rattle.payloads.proofs.run_item.Reads as reads
use Rattle.payloads.proofs.run_item.Tie as tie
use Rattle.payloads.proofs.run_item.Goals as goal

-- the value that was read
value : (c : lts.After-read_i32 tie.the-claims reads.Pre reads.Post) → to_z w32 (of_z w32 c.read_i32-value.result) ≡ signed_at w32 c.args.payload.now c.args.at
value c =
    let a = c.args in
    to_z-of_z {w = w32} (record { sfits = c.read_i32-value.type_inv }) ∙ c.read_i32-value.ensures ∙ part-number a.payload.now a.at 0 (omega arith) ∙ ap (signed_at w32 a.payload.now) (add-zero a.at)

-- the count that was read
count : (c : lts.After-read_i322 tie.the-claims reads.Pre reads.Post) → to_z w32 (of_z w32 c.read_i32-count.result) ≡ signed_at w32 c.args.payload.now (c.args.at + 4)
count c =
    let a = c.args in
    to_z-of_z {w = w32} (record { sfits = c.read_i32-count.type_inv }) ∙ c.read_i32-count.ensures ∙ part-number a.payload.now a.at 4 (omega arith)

pub returns-then-payload-at-lt8 : goal.returns-then-payload-at-lt8
returns-then-payload-at-lt8 c =
    let a = c.args in
    sym (run_short a.range a.payload.now a.at (omega arith))

pub returns-then-count-lt1 : goal.returns-then-count-lt1
returns-then-count-lt1 c =
    let a = c.args in
    let t = ap (λ (z : ℤ). lt_z z (pos 1)) (sym (count c.before.before)) ∙ c.if-count-lt1.true in
    sym (run-item a.range a.payload.now a.at (omega arith) ∙ rw t)

pub returns-then-is_in : goal.returns-then-is_in
returns-then-is_in c =
    let a = c.args in
    let q = count c.before.before.before.before.before in
    let v = value c.before.before.before.before.before.before in
    let t = ap (λ (z : ℤ). lt_z z (pos 1)) (sym q) ∙ c.if-count-lt1.false in
    let h : in_range a.range (signed_at w32 a.payload.now a.at) ≡ true = ap (in_range a.range) (sym v) ∙ sym c.is_in.ensures ∙ c.if-is_in.true in
    let b = count_bits (signed_at w32 a.payload.now (a.at + 4)) t in
    let m : c.cast_unsigned.result ≡ nat_abs (signed_at w32 a.payload.now (a.at + 4)) = c.cast_unsigned.ensures ∙ ap (of_z w32) q ∙ b.0 in
    rw (m, v) (sym (run-item a.range a.payload.now a.at (omega arith) ∙ rw (t, h)))

pub returns : goal.returns
returns c =
    let a = c.args in
    let q = count c.before.before.before.before in
    let v = value c.before.before.before.before.before in
    let t = ap (λ (z : ℤ). lt_z z (pos 1)) (sym q) ∙ c.if-count-lt1.false in
    let h = ap (in_range a.range) (sym v) ∙ sym c.is_in.ensures ∙ c.if-is_in.false in
    sym (run-item a.range a.payload.now a.at (omega arith) ∙ rw (t, h))

-- The loop's invariant: the numbers of the values passed, with one for each value that is left, are `n`.
use Rattle.std.proofs.Common.{◌≡◌, ℕ, ◌+◌, ◌<◌, length, get_or, drop, pos, sym, ap, ◌∙◌, arith, to_z-of_z, w32, to_z, of_z}
use Rattle.steps.specs.Delta.{deltas_if, deltas_from}
use Rattle.steps.specs.Packing.{pack}
use Rattle.steps.proofs.Laws.Delta.{deltas-read, deltas-end}
use Rattle.writers.specs.Laws.Packed.{length-bytes_for-over, length-bytes_for-in, length-pack-more, length-pack-none, length-pack-deltas}
use Rattle.writers.proofs.packed.count_numbers.Lts as lts
use Rattle.writers.proofs.packed.count_numbers.Reads as reads
use Rattle.writers.proofs.packed.count_numbers.Tie as tie
use Rattle.writers.proofs.packed.count_numbers.Goals as goal

-- the numbers of the next value
more : (c : lts.After-limits_of tie.the-claims reads.Pre reads.Post goal.the-invariant-loop-i goal.the-decreases-loop-i)
    → length (pack c.args.size (deltas_from c.args.delta (to_z w32 c.loop-i.before-bits) (drop c.loop-i.i c.args.values.now)))
    ≡ c.limits_of-more.result + 1
    + length (pack c.args.size (deltas_from c.args.delta (to_z w32 (of_z w32 (get_or c.args.values.now c.loop-i.i (pos 0)))) (drop (c.loop-i.i + 1) c.args.values.now)))
more c =
    let a = c.args in
    let p = c.loop-i in
    let h : p.i < length a.values.now = omega arith in
    let e = length-pack-more a.size (to_z w32 (of_z w32 c.delta_if.result)) _ _ (deltas-read a.delta (to_z w32 p.before-bits) a.values.now p.i h (record { sfits = c.x-1.given }) (to_z-of_z {w = w32} (record { sfits = c.delta_if.type_inv }) ∙ c.delta_if.ensures)) in
    e ∙ ap (λ (n : ℕ). n + length (pack a.size (deltas_from a.delta (to_z w32 (of_z w32 (get_or a.values.now p.i (pos 0)))) (drop (p.i + 1) a.values.now)))) (sym c.limits_of-more.ensures.0)

pub returns-then-fit-n : goal.returns-then-fit-n
returns-then-fit-n c =
    let a = c.args in
    let l = length-pack-deltas a.size a.delta (pos 0) a.values.now 0 in
    length-bytes_for-over a.size a.room 0 c.bytes-k.ensures (pack a.size (deltas_if a.delta a.values.now)) (omega arith)

pub returns-then-fit-n-2 : goal.returns-then-fit-n-2
returns-then-fit-n-2 c =
    let a = c.args in
    let p = c.loop-i in
    let m = more c.before in
    let l = length-pack-deltas a.size a.delta (to_z w32 (of_z w32 (get_or a.values.now p.i (pos 0)))) a.values.now (p.i + 1) in
    length-bytes_for-over a.size a.room 0 c.bytes-k.ensures (pack a.size (deltas_if a.delta a.values.now)) (omega (arith, p.invariant.2, p.invariant.1, c.limits_of-more.ensures.0))

pub loop-i-preserved : goal.loop-i-preserved
loop-i-preserved c =
    let p = c.loop-i in
    let m = more c.before in
    (omega arith, omega (arith, p.invariant.1), omega (arith, p.invariant.2, c.limits_of-more.ensures.0))

pub returns : goal.returns
returns c =
    let a = c.args in
    let p = c.loop-i in
    let e = length-pack-none a.size _ (deltas-end a.delta (to_z w32 p.before-bits) a.values.now p.i (omega arith)) in
    length-bytes_for-in a.size a.room p.n c.bytes-k.ensures (pack a.size (deltas_if a.delta a.values.now)) p.invariant.1 (omega (arith, p.invariant.2))

-- The loop's invariant: the bytes of the values that are left, put over the buffer from `at` on, give the same as those of the start.
use Rattle.std.proofs.Common.{ℕ, ◌+◌, ◌-◌, ◌<◌, List, ◌++◌, length, get_or, drop, pos, sym, ap, ◌∙◌, arith, to_z-of_z, w32, SFits, to_z, of_z}
use Rattle.numbers.specs.BigEndian.{bytes_of}
use Rattle.numbers.specs.Laws.BigEndian.{length-bytes_of}
use Rattle.steps.specs.Width.{size_of}
use Rattle.steps.specs.Numbers.{bytes_for}
use Rattle.steps.specs.Packing.{pack}
use Rattle.steps.specs.Delta.{deltas_from}
use Rattle.steps.proofs.Laws.Delta.{deltas-read}
use Rattle.writers.specs.Laws.Placed.{Parts, come-room, come-on}
use Rattle.writers.specs.Laws.Packed.{bytes-pack-more, bytes-pack_one-short}
use Rattle.writers.proofs.packed.write_short.Lts as lts
use Rattle.writers.proofs.packed.write_short.Reads as reads
use Rattle.writers.proofs.packed.write_short.Tie as tie
use Rattle.writers.proofs.packed.write_short.Goals as goal

-- the bytes of the next value, which is one number
more : (c : lts.Else1 tie.the-claims reads.Pre reads.Post goal.the-invariant-loop-i goal.the-decreases-loop-i tie.handed_clauses)
    → Parts (bytes_for c.args.size (pack c.args.size (deltas_from c.args.delta (to_z w32 c.loop-i.before-bits) (drop c.loop-i.i c.args.values.now))))
    (bytes_of (size_of c.args.size) c.cast_unsigned-bits.result)
    (bytes_for c.args.size (pack c.args.size (deltas_from c.args.delta (to_z w32 (of_z w32 (get_or c.args.values.now c.loop-i.i (pos 0)))) (drop (c.loop-i.i + 1) c.args.values.now))))
more c =
    let a = c.args in
    let p = c.loop-i in
    let h : p.i < length a.values.now = omega arith in
    let m = bytes-pack-more a.size c.delta_if.result _ _ (deltas-read a.delta (to_z w32 p.before-bits) a.values.now p.i h (record { sfits = c.x-1.given }) c.delta_if.ensures) in
    let f : SFits w32 c.delta_if.result = record { sfits = c.delta_if.type_inv } in
    let u = c.cast_unsigned-bits.ensures ∙ ap (of_z w32) (to_z-of_z {w = w32} {z = c.delta_if.result} f) in
    let e = bytes-pack_one-short a.size c.cast_unsigned-bits.result (c.lower-low.result - 1) (c.upper.result + (c.lower-low.result - 1)) c.delta_if.result f u
    (ap (λ (n : ℕ). n - 1) c.lower-low.ensures) (ap (λ (n : ℕ). n + (c.lower-low.result - 1)) c.upper.ensures) (sym c.is_short.ensures ∙ c.if-not-is_short.false) in
    record { are = m.are ∙ ap (λ (l : List ℕ). l ++ (bytes_for c.args.size (pack c.args.size (deltas_from c.args.delta (to_z w32 (of_z w32 (get_or c.args.values.now c.loop-i.i (pos 0)))) (drop (c.loop-i.i + 1) c.args.values.now))))) e }

pub put-requires : goal.put-requires
put-requires c = come-room c.loop-i.invariant.2 (more c.before) (length-bytes_of (size_of c.args.size) c.cast_unsigned-bits.result)

pub loop-i-preserved : goal.loop-i-preserved
loop-i-preserved c =
    let a = c.args in
    let p = c.loop-i in
    (omega (arith, p.invariant.0), c.put.auto.buffer ∙ p.invariant.1, come-on p.invariant.2 (more c.before.before.before.before.before) c.put.ensures (ap (λ (n : ℕ). p.at + n) (c.bytes-k.ensures ∙ sym (length-bytes_of (size_of a.size) c.cast_unsigned-bits.result))))

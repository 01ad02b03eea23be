-- The loop's invariant: what is to be written at the spot, put over the buffer from its place on, gives the finished one.
use Rattle.std.proofs.Common.{◌+◌, ◌<◌, length, get_or, drop, ℤ, pos, refl, ap, ◌∙◌, arith, to_z-of_z, w32, to_z, of_z}
use Rattle.steps.specs.Width.{upper, lower}
use Rattle.steps.specs.Numbers.{bytes_for}
use Rattle.steps.specs.Delta.{deltas_if, delta_if, deltas_from}
use Rattle.steps.specs.Packing.{pack_one, pack}
use Rattle.steps.proofs.Laws.Delta.{deltas-read, deltas-end}
use Rattle.writers.specs.Placed.{over}
use Rattle.writers.specs.Laws.Placed.{ToCome, Parts, come-end, come-room, come-on}
use Rattle.writers.specs.Bits.{to_write}
use Rattle.writers.specs.Laws.Packed.{bytes-pack-more, bytes-pack-none}
use Rattle.writers.proofs.packed.write_numbers.Lts as lts
use Rattle.writers.proofs.packed.write_numbers.Reads as reads
use Rattle.writers.proofs.packed.write_numbers.Tie as tie
use Rattle.writers.proofs.packed.write_numbers.Goals as goal

-- what is left after the short values
come : (c : lts.After-write_short tie.the-claims reads.Pre reads.Post goal.the-invariant-loop-size goal.the-decreases-loop-size tie.handed_clauses)
    → ToCome (over c.args.buffer.now c.args.start (bytes_for c.args.size (pack c.args.size (deltas_if c.args.delta c.args.values.now)))) c.write_short-spot.new.buffer c.write_short-spot.result.at (to_write c.args.size c.args.delta c.args.values.now c.write_short-spot.result)
come c = record { gives = c.write_short-spot.ensures.buffer ∙ c.loop-size.invariant.1.gives; room = omega (arith, c.write_short-spot.ensures.room, c.write_short-spot.auto.buffer) }

-- the bytes of the next value
more : (c : lts.After-delta_if tie.the-claims reads.Pre reads.Post goal.the-invariant-loop-size goal.the-decreases-loop-size tie.handed_clauses)
    → Parts (to_write c.args.size c.args.delta c.args.values.now c.write_short-spot.result)
    (bytes_for c.args.size (pack_one (upper c.args.size) (lower c.args.size) (to_z w32 (of_z w32 c.delta_if.result))))
    (bytes_for c.args.size (pack c.args.size (deltas_from c.args.delta (to_z w32 (of_z w32 (get_or c.args.values.now c.write_short-spot.result.next (pos 0)))) (drop (c.write_short-spot.result.next + 1) c.args.values.now))))
more c =
    let a = c.args in
    let p = c.write_short-spot.result in
    let h : p.next < length a.values.now = omega arith in
    let t = to_z-of_z {w = w32} {z = p.before} (record { sfits = c.struct_told-1.given.1.1.0.1 }) in
    bytes-pack-more a.size _ _ _ (deltas-read a.delta p.before a.values.now p.next h (record { sfits = c.x-1.given }) (to_z-of_z {w = w32} (record { sfits = c.delta_if.type_inv }) ∙ c.delta_if.ensures ∙ ap (λ (b : ℤ). delta_if a.delta b (to_z w32 (of_z w32 (get_or a.values.now p.next (pos 0))))) t))

pub returns-then-values-i : goal.returns-then-values-i
returns-then-values-i c =
    let a = c.args in
    come-end (come c.before.before.before.before) (bytes-pack-none a.size _ (deltas-end a.delta c.write_short-spot.result.before a.values.now c.write_short-spot.result.next (omega arith)))

pub write_long-at-requires : goal.write_long-at-requires
write_long-at-requires c = come-room (come c.before.before.before.before.before.before.before.before) (more c.before.before) refl

pub loop-size-preserved : goal.loop-size-preserved
loop-size-preserved c = (c.write_long-at.auto.buffer ∙ c.write_short-spot.auto.buffer ∙ c.loop-size.invariant.0, come-on (come c.before.before.before.before.before.before.before.before.before.before.before) (more c.before.before.before.before.before) c.write_long-at.ensures.buffer c.write_long-at.ensures.place)

-- The loop's invariant: the bytes of the cells that are left, put over the buffer from `at` on, give the finished one.
use Rattle.std.proofs.Common.{ℕ, ◌+◌, ◌≤◌, map, length, get_or, drop, sym, ap, ◌∙◌, arith, w32, to_z}
use mir.Facts.{of_z-to_z}
use Rattle.numbers.specs.BigEndian.{bytes_of}
use Rattle.numbers.specs.Laws.BigEndian.{length-bytes_of}
use Rattle.steps.specs.declared.Size.TheVariants.{Four}
use Rattle.steps.specs.Numbers.{bytes_for}
use Rattle.steps.proofs.Laws.Lists.{map_at, map-end}
use Rattle.writers.specs.Laws.Placed.{Parts, come-end, come-room, come-on}
use Rattle.writers.specs.Laws.Plain.{bytes_for-more, bytes_for-none}
use Rattle.writers.proofs.plain.write_floats.Lts as lts
use Rattle.writers.proofs.plain.write_floats.Reads as reads
use Rattle.writers.proofs.plain.write_floats.Tie as tie
use Rattle.writers.proofs.plain.write_floats.Goals as goal

-- the bytes of the next cell
more : (c : lts.After-put_four-arg tie.the-claims reads.Pre reads.Post goal.the-invariant-loop-x goal.the-decreases-loop-x) → Parts (bytes_for Four (map (to_z w32) (drop c.loop-x.x-index c.args.bits.now))) (bytes_of 4 (get_or c.args.bits.now c.loop-x.x-index 0)) (bytes_for Four (map (to_z w32) (drop (c.loop-x.x-index + 1) c.args.bits.now)))
more c =
    let s = c.args.bits.now in
    let i = c.loop-x.x-index in
    bytes_for-more Four ((to_z w32) (get_or s i 0)) (get_or s i 0) _ _ (map_at (to_z w32) 0 s i c.loop-x-test.true) (ap (bytes_of 4) (sym (of_z-to_z {w = w32} (c.shared_slice_known-1.given i))))

room : (c : lts.After-put_four-arg tie.the-claims reads.Pre reads.Post goal.the-invariant-loop-x goal.the-decreases-loop-x) → c.loop-x.at + 4 ≤ length c.loop-x.buffer
room c = come-room c.loop-x.invariant.1 (more c) (length-bytes_of 4 (get_or c.args.bits.now c.loop-x.x-index 0))

pub put_four-requires : goal.put_four-requires
put_four-requires c = room c.before.before

pub loop-x-preserved : goal.loop-x-preserved
loop-x-preserved c =
    let p = c.loop-x in
    (c.put_four.auto.buffer ∙ p.invariant.0, come-on p.invariant.1 (more c.before.before.before.before.before) c.put_four.ensures (ap (λ (n : ℕ). p.at + n) (sym (length-bytes_of 4 (get_or c.args.bits.now c.loop-x.x-index 0)))))

pub returns : goal.returns
returns c = come-end c.loop-x.invariant.1 (bytes_for-none Four _ (map-end (to_z w32) 0 c.args.bits.now c.loop-x.x-index (omega arith)))

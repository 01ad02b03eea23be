-- The loop's invariant: the bytes of the cells that are left, put over the buffer from `at` on, give the finished one.
use Rattle.std.proofs.Common.{ℕ, ◌+◌, ◌≤◌, map, length, get_or, drop, pos, refl, ap, ◌∙◌, sym, arith}
use Rattle.numbers.specs.BigEndian.{bytes_of}
use Rattle.numbers.specs.Laws.BigEndian.{length-bytes_of}
use Rattle.steps.specs.declared.Size.TheVariants.{One}
use Rattle.steps.specs.Numbers.{bytes_for}
use Rattle.steps.proofs.Laws.Lists.{map_at, map-end}
use Rattle.writers.specs.Laws.Placed.{Parts, come-end, come-room, come-on}
use Rattle.writers.specs.Laws.Plain.{bytes_for-more, bytes_for-none}
use Rattle.writers.proofs.plain.write_names.Lts as lts
use Rattle.writers.proofs.plain.write_names.Reads as reads
use Rattle.writers.proofs.plain.write_names.Tie as tie
use Rattle.writers.proofs.plain.write_names.Goals as goal

-- the bytes of the next cell
more : (c : lts.After-put_one-arg tie.the-claims reads.Pre reads.Post goal.the-invariant-loop-byte goal.the-decreases-loop-byte) → Parts (bytes_for One (map pos (drop c.loop-byte.byte-index c.args.names.now))) (bytes_of 1 (get_or c.args.names.now c.loop-byte.byte-index 0)) (bytes_for One (map pos (drop (c.loop-byte.byte-index + 1) c.args.names.now)))
more c =
    let s = c.args.names.now in
    let i = c.loop-byte.byte-index in
    bytes_for-more One (pos (get_or s i 0)) (get_or s i 0) _ _ (map_at pos 0 s i c.loop-byte-test.true) refl

room : (c : lts.After-put_one-arg tie.the-claims reads.Pre reads.Post goal.the-invariant-loop-byte goal.the-decreases-loop-byte) → c.loop-byte.at + 1 ≤ length c.loop-byte.buffer
room c = come-room c.loop-byte.invariant.1 (more c) (length-bytes_of 1 (get_or c.args.names.now c.loop-byte.byte-index 0))

pub put_one-requires : goal.put_one-requires
put_one-requires c = room c.before.before

pub loop-byte-preserved : goal.loop-byte-preserved
loop-byte-preserved c =
    let p = c.loop-byte in
    (c.put_one.auto.buffer ∙ p.invariant.0, come-on p.invariant.1 (more c.before.before.before.before.before) c.put_one.ensures (ap (λ (n : ℕ). p.at + n) (sym (length-bytes_of 1 (get_or c.args.names.now c.loop-byte.byte-index 0)))))

pub returns : goal.returns
returns c = come-end c.loop-byte.invariant.1 (bytes_for-none One _ (map-end pos 0 c.args.names.now c.loop-byte.byte-index (omega arith)))

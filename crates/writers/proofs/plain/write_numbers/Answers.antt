-- The loop's invariant: the bytes of the values that are left, put over the buffer from `at` on, give the finished one.
use Rattle.std.proofs.Common.{ℕ, ◌+◌, ◌<◌, ◌≤◌, length, get_or, drop, pos, sym, ap, ◌∙◌, arith, to_z-of_z, w32, of_z}
use Rattle.numbers.specs.BigEndian.{bytes_of}
use Rattle.numbers.specs.Laws.BigEndian.{length-bytes_of}
use Rattle.steps.specs.declared.Form.TheVariants.{Plain}
use Rattle.steps.specs.Width.{size_of}
use Rattle.steps.specs.Numbers.{bytes_for}
use Rattle.steps.specs.Payload.{range_of}
use Rattle.steps.proofs.Laws.Lists.{drop_at, drop-end}
use Rattle.writers.specs.Laws.Placed.{Parts, come-end, come-room, come-on}
use Rattle.writers.specs.Laws.Numbers.{bytes_of-narrow}
use Rattle.steps.proofs.Laws.Allowed.{all_split}
use Rattle.writers.specs.Laws.Plain.{mag-held, bytes_for-more, bytes_for-none}
use Rattle.writers.proofs.plain.write_numbers.Lts as lts
use Rattle.writers.proofs.plain.write_numbers.Reads as reads
use Rattle.writers.proofs.plain.write_numbers.Tie as tie
use Rattle.writers.proofs.plain.write_numbers.Goals as goal

-- the bytes of the next value
more : (c : lts.After-cast_unsigned tie.the-claims reads.Pre reads.Post goal.the-invariant-loop-i goal.the-decreases-loop-i) → Parts (bytes_for c.args.size (drop c.loop-i.i c.args.values.now)) (bytes_of (size_of c.args.size) c.cast_unsigned.result) (bytes_for c.args.size (drop (c.loop-i.i + 1) c.args.values.now))
more c =
    let a = c.args in
    let p = c.loop-i in
    let h : p.i < length a.values.now = omega arith in
    let d = drop_at (pos 0) a.values.now p.i h in
    let x = get_or a.values.now p.i (pos 0) in
    let u = c.cast_unsigned.ensures ∙ ap (of_z w32) (to_z-of_z {w = w32} {z = x} (record { sfits = c.cast_unsigned-arg-1.given })) in
    bytes_for-more a.size x c.cast_unsigned.result _ _ d
    (ap (bytes_of (size_of a.size)) u ∙ bytes_of-narrow a.size x (mag-held a.size x (all_split (range_of (Plain a.size)) _ _ _ d p.invariant.1).0))

room : (c : lts.After-cast_unsigned tie.the-claims reads.Pre reads.Post goal.the-invariant-loop-i goal.the-decreases-loop-i) → c.loop-i.at + size_of c.args.size ≤ length c.loop-i.buffer
room c = come-room c.loop-i.invariant.3 (more c) (length-bytes_of (size_of c.args.size) c.cast_unsigned.result)

pub put-requires : goal.put-requires
put-requires c = room c

pub loop-i-preserved : goal.loop-i-preserved
loop-i-preserved c =
    let a = c.args in
    let p = c.loop-i in
    let h : p.i < length a.values.now = omega arith in
    let k = ap (λ (n : ℕ). p.at + n) (c.bytes-at.ensures ∙ sym (length-bytes_of (size_of a.size) c.cast_unsigned.result)) in
    (omega arith, (all_split (range_of (Plain a.size)) _ _ _ (drop_at (pos 0) a.values.now p.i h) p.invariant.1).1, c.put.auto.buffer ∙ p.invariant.2, come-on p.invariant.3 (more c.before.before.before.before.before) c.put.ensures k)

pub returns : goal.returns
returns c =
    let a = c.args in
    come-end c.loop-i.invariant.3 (bytes_for-none a.size _ (drop-end (pos 0) a.values.now c.loop-i.i (omega arith)))

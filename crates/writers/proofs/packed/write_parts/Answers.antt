-- The loop's invariant: the limits that are left and the rest, put over the buffer from `at` on, give the finished one.
use Rattle.std.proofs.Common.{◌≡◌, ◌<◌, ℕ, ◌+◌, ◌-◌, ◌≤◌, [], ◌∷◌, length, sym, refl, ap, ◌∙◌, arith}
use Rattle.numbers.specs.Laws.BigEndian.{length-bytes_of}
use Rattle.steps.specs.Width.{size_of}
use Rattle.writers.specs.Laws.Placed.{parts-length, come-end, come-room, come-on}
use Rattle.writers.specs.Laws.Packed.{limit-more, rest-last}
use Rattle.writers.proofs.packed.write_parts.Lts as lts
use Rattle.writers.proofs.packed.write_parts.Reads as reads
use Rattle.writers.proofs.packed.write_parts.Tie as tie
use Rattle.writers.proofs.packed.write_parts.Goals as goal

room : (c : lts.In-loop tie.the-claims reads.Pre reads.Post goal.the-invariant-loop goal.the-decreases-loop tie.handed_clauses) → c.loop.at + size_of c.args.size ≤ length c.loop.buffer
room c =
    let a = c.args in
    let h : 0 < a.count - c.loop.counter = omega arith in
    come-room c.loop.invariant.2 (limit-more a.size (c.args.count - c.loop.counter) a.limit (a.rest ∷ []) h) (length-bytes_of (size_of a.size) a.limit)

room-2 : (c : lts.After-loop tie.the-claims reads.Pre reads.Post goal.the-invariant-loop goal.the-decreases-loop tie.handed_clauses) → c.loop.at + size_of c.args.size ≤ length c.loop.buffer
room-2 c =
    let a = c.args in
    let h : a.count - c.loop.counter ≤ 0 = omega arith in
    come-room c.loop.invariant.2 (rest-last a.size (c.args.count - c.loop.counter) a.limit a.rest h) (length-bytes_of (size_of a.size) a.rest)

pub put-requires : goal.put-requires
put-requires c = room c.before

pub loop-preserved : goal.loop-preserved
loop-preserved c =
    let a = c.args in
    let p = c.loop in
    let k = c.bytes-k.ensures ∙ sym (length-bytes_of (size_of a.size) a.limit) in
    let h : 0 < a.count - p.counter = omega arith in
    let less : a.count - p.counter - 1 ≡ a.count - (p.counter + 1) = omega arith in
    let e = rw less at (limit-more a.size (a.count - p.counter) a.limit (a.rest ∷ []) h) in
    (c.put.auto.buffer ∙ p.invariant.0, omega (arith, parts-length e, p.invariant.1), come-on p.invariant.2 e c.put.ensures (ap (λ (n : ℕ). p.at + n) k))

pub put-requires-2 : goal.put-requires-2
put-requires-2 c = room-2 c.before

pub returns : goal.returns
returns c =
    let a = c.args in
    let p = c.loop in
    let k = c.bytes-k.ensures ∙ sym (length-bytes_of (size_of a.size) a.rest) in
    let h : a.count - p.counter ≤ 0 = omega arith in
    let e = rest-last a.size (a.count - p.counter) a.limit a.rest h in
    record { place = omega (arith, parts-length e, p.invariant.1); buffer = come-end (come-on p.invariant.2 e c.put-2.ensures refl) refl }

-- Two numbers of 32 bits, one after the other; the count goes by its low 32 bits.
use Rattle.std.proofs.Common.{ℕ, ◌+◌, ◌%◌, List, ap, ◌∙◌, arith}
use Rattle.numbers.specs.BigEndian.{bytes_of}
use Rattle.numbers.specs.Laws.BigEndian.{length-bytes_of, bytes_of_mod}
use Rattle.writers.specs.Placed.{over}
use Rattle.writers.specs.Laws.Placed.{over-then}
use Rattle.writers.proofs.runs.put_run.Goals as goal

pub returns : goal.returns
returns c =
    let a = c.args in
    let s = a.buffer.now in
    let h = c.requires in
    let b = bytes_of 4 a.bits in
    let e = c.put_four.ensures in
    let l = length-bytes_of 4 a.bits in
    let m = length-bytes_of 4 a.count in
    c.put_four-2.ensures ∙ ap (λ (t : List ℕ). over t (a.at + 4) (bytes_of 4 (a.count % 4294967296))) e
    ∙ ap (over (over s a.at b) (a.at + 4)) (bytes_of_mod 4 a.count)
    ∙ over-then s a.at 4 b (bytes_of 4 a.count) l (omega arith)

-- The loop's invariant: the bytes of `n` cells `v` and of the cells that are left, put over the buffer from `at` on, give the finished one.
use Rattle.std.proofs.Common.{ℕ, ◌+◌, ◌<◌, [], ◌++◌, map, length, get_or, drop, pos, sym, refl, ap, ◌∙◌, arith}
use Rattle.numbers.specs.BigEndian.{bytes_of}
use Rattle.steps.specs.declared.Size.TheVariants.{Four}
use Rattle.steps.specs.Numbers.{bytes_for}
use Rattle.steps.specs.RunLength.{runs_from}
use Rattle.writers.specs.Placed.{over}
use Rattle.steps.proofs.Laws.Lists.{map_at, map-end}
use Rattle.writers.specs.Laws.Placed.{over_none, Parts, come-end, come-same, come-room, come-on}
use Rattle.writers.specs.Laws.Numbers.{bytes_for-nil}
use Rattle.writers.specs.Laws.Runs.{runs_of-none, runs_of-first, length_run, bytes-run-on, bytes-run-over, bytes-run-last}
use Rattle.writers.proofs.runs.write_chars.Lts as lts
use Rattle.writers.proofs.runs.write_chars.Reads as reads
use Rattle.writers.proofs.runs.write_chars.Tie as tie
use Rattle.writers.proofs.runs.write_chars.Goals as goal

-- the run that is over
over-now : (c : lts.Else2 tie.the-claims reads.Pre reads.Post goal.the-invariant-loop-i goal.the-decreases-loop-i)
    → Parts (bytes_for Four (runs_from (pos c.loop-i.v) c.loop-i.n (map pos (drop c.loop-i.i c.args.values.now)))) (bytes_of 4 c.loop-i.v ++ bytes_of 4 c.loop-i.n)
    (bytes_for Four (runs_from (pos (get_or c.args.values.now c.loop-i.i 0)) 1 (map pos (drop (c.loop-i.i + 1) c.args.values.now))))
over-now c = bytes-run-over (pos c.loop-i.v) c.loop-i.n _ _ _ (map_at pos 0 c.args.values.now c.loop-i.i c.loop-i-test.true) c.if-x-v.false

last : (c : lts.After-loop tie.the-claims reads.Pre reads.Post goal.the-invariant-loop-i goal.the-decreases-loop-i) → Parts (bytes_for Four (runs_from (pos c.loop-i.v) c.loop-i.n (map pos (drop c.loop-i.i c.args.values.now)))) (bytes_of 4 c.loop-i.v ++ bytes_of 4 c.loop-i.n) []
last c = bytes-run-last (pos c.loop-i.v) c.loop-i.n _ (map-end pos 0 c.args.values.now c.loop-i.i (omega arith))

pub returns-then-values-eq0 : goal.returns-then-values-eq0
returns-then-values-eq0 c =
    let a = c.args in
    sym (ap (over a.buffer.now a.start) (ap (bytes_for Four) (runs_of-none _ (map-end pos 0 a.values.now 0 (omega arith))) ∙ bytes_for-nil Four) ∙ over_none a.buffer.now a.start)

pub loop-i-init : goal.loop-i-init
loop-i-init c =
    let a = c in
    let s = a.args.values.now in
    let h : 0 < length s = omega arith in
    (omega arith, omega arith, refl, come-same (record { gives = refl; room = a.requires }) (ap (bytes_for Four) (runs_of-first _ _ _ (map_at pos 0 s 0 h))))

pub loop-i-preserved-then-x-v : goal.loop-i-preserved-then-x-v
loop-i-preserved-then-x-v c =
    let s = c.args.values.now in
    let p = c.loop-i in
    (omega arith, omega arith, p.invariant.2, come-same p.invariant.3 (bytes-run-on (pos p.v) p.n _ _ _ (map_at pos 0 s p.i c.loop-i-test.true) c.if-x-v.true))

pub put_run-requires : goal.put_run-requires
put_run-requires c = come-room c.loop-i.invariant.3 (over-now c.before.before) (length_run c.loop-i.v c.loop-i.n)

pub loop-i-preserved : goal.loop-i-preserved
loop-i-preserved c =
    let p = c.loop-i in
    (omega arith, omega arith, c.put_run.auto.buffer ∙ p.invariant.2, come-on p.invariant.3 (over-now c.before.before.before.before.before) c.put_run.ensures (ap (λ (n : ℕ). p.at + n) (sym (length_run p.v p.n))))

pub put_run-requires-2 : goal.put_run-requires-2
put_run-requires-2 c = come-room c.loop-i.invariant.3 (last c.before.before) (length_run c.loop-i.v c.loop-i.n)

pub returns : goal.returns
returns c =
    let p = c.loop-i in
    come-end (come-on p.invariant.3 (last c.before.before.before.before.before) c.put_run-2.ensures refl) refl

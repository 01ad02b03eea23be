-- The loop's invariant: the bytes of `n` cells `v` and of the cells that are left, put over the buffer from `at` on, give the finished one.
use Rattle.std.proofs.Common.{◌≡◌, ℕ, ◌+◌, ◌<◌, [], ◌∷◌, ◌++◌, length, get_or, drop, pos, sym, refl, ap, ◌∙◌, arith, w32, to_z, of_z}
use Rattle.numbers.specs.BigEndian.{bytes_of}
use Rattle.steps.specs.declared.Size.TheVariants.{Four}
use Rattle.steps.specs.Numbers.{bytes_for}
use Rattle.steps.specs.Delta.{deltas_from}
use Rattle.steps.specs.RunLength.{runs_from}
use Rattle.steps.proofs.Laws.Delta.{deltas-end}
use Rattle.writers.specs.Placed.{over}
use Rattle.writers.specs.Laws.Placed.{over_none, Parts, come-end, come-same, come-room, come-on}
use Rattle.writers.specs.Laws.Numbers.{bytes_for-nil, bits-same}
use Rattle.writers.specs.Laws.Runs.{runs_of-none, runs_of-first, length_run, next-cell, bytes-run-on, bytes-run-over, bytes-run-last}
use Rattle.writers.proofs.runs.write_numbers.Lts as lts
use Rattle.writers.proofs.runs.write_numbers.Reads as reads
use Rattle.writers.proofs.runs.write_numbers.Tie as tie
use Rattle.writers.proofs.runs.write_numbers.Goals as goal

-- the next cell
come : (c : lts.After-cast_unsigned2 tie.the-claims reads.Pre reads.Post goal.the-invariant-loop-i goal.the-decreases-loop-i)
    → deltas_from c.args.delta (to_z w32 c.loop-i.before-bits) (drop c.loop-i.i c.args.values.now)
    ≡ to_z w32 c.cast_unsigned-y.result ∷ deltas_from c.args.delta (to_z w32 (of_z w32 (get_or c.args.values.now c.loop-i.i (pos 0)))) (drop (c.loop-i.i + 1) c.args.values.now)
come c =
    let a = c.args in
    let p = c.loop-i in
    let h : p.i < length a.values.now = omega arith in
    next-cell a.delta (to_z w32 p.before-bits) a.values.now p.i h (record { sfits = c.x-1.given }) (record { sfits = c.delta_if-in-loop-i.type_inv }) c.delta_if-in-loop-i.ensures c.cast_unsigned-y.ensures

-- the run that is over
over-now : (c : lts.Else2 tie.the-claims reads.Pre reads.Post goal.the-invariant-loop-i goal.the-decreases-loop-i)
    → Parts (bytes_for Four (runs_from (to_z w32 c.loop-i.v) c.loop-i.n (deltas_from c.args.delta (to_z w32 c.loop-i.before-bits) (drop c.loop-i.i c.args.values.now)))) (bytes_of 4 c.loop-i.v ++ bytes_of 4 c.loop-i.n)
    (bytes_for Four (runs_from (to_z w32 c.cast_unsigned-y.result) 1 (deltas_from c.args.delta (to_z w32 (of_z w32 (get_or c.args.values.now c.loop-i.i (pos 0)))) (drop (c.loop-i.i + 1) c.args.values.now))))
over-now c =
    let p = c.loop-i in
    let u = bits-same c.cast_unsigned-y.result (omega (arith, c.cast_unsigned-y.type_inv)) in
    let w = bits-same p.v p.invariant.2 in
    rw w at (bytes-run-over (to_z w32 p.v) p.n _ _ _ (come c.before) (λ e. c.if-y-v.false (sym u ∙ e ∙ w)))

last : (c : lts.After-loop tie.the-claims reads.Pre reads.Post goal.the-invariant-loop-i goal.the-decreases-loop-i)
    → Parts (bytes_for Four (runs_from (to_z w32 c.loop-i.v) c.loop-i.n (deltas_from c.args.delta (to_z w32 c.loop-i.before-bits) (drop c.loop-i.i c.args.values.now)))) (bytes_of 4 c.loop-i.v ++ bytes_of 4 c.loop-i.n) []
last c =
    let a = c.args in
    let p = c.loop-i in
    rw (bits-same p.v p.invariant.2) at (bytes-run-last (to_z w32 p.v) p.n _ (deltas-end a.delta (to_z w32 p.before-bits) a.values.now p.i (omega arith)))

pub returns-then-values-eq0 : goal.returns-then-values-eq0
returns-then-values-eq0 c =
    let a = c.args in
    sym (ap (over a.buffer.now a.start) (ap (bytes_for Four) (runs_of-none _ (deltas-end a.delta (pos 0) a.values.now 0 (omega arith))) ∙ bytes_for-nil Four) ∙ over_none a.buffer.now a.start)

pub loop-i-init : goal.loop-i-init
loop-i-init c =
    let a = c.args in
    let h : 0 < length a.values.now = omega arith in
    (omega arith, omega arith, omega (arith, c.cast_unsigned-v.type_inv), refl, come-same (record { gives = refl; room = c.requires }) (ap (bytes_for Four) (runs_of-first _ _ _ (next-cell a.delta (pos 0) a.values.now 0 h (record { sfits = c.before-1.given }) (record { sfits = c.delta_if.type_inv }) c.delta_if.ensures c.cast_unsigned-v.ensures))))

pub loop-i-preserved-then-y-v : goal.loop-i-preserved-then-y-v
loop-i-preserved-then-y-v c =
    let p = c.loop-i in
    (omega arith, omega arith, p.invariant.2, p.invariant.3, come-same p.invariant.4 (bytes-run-on (to_z w32 p.v) p.n _ _ _ (come c.before) (ap (λ (u : ℕ). of_z w32 (to_z w32 u)) c.if-y-v.true)))

pub put_run-requires : goal.put_run-requires
put_run-requires c = come-room c.loop-i.invariant.4 (over-now c.before) (length_run c.loop-i.v c.loop-i.n)

pub loop-i-preserved : goal.loop-i-preserved
loop-i-preserved c =
    let p = c.loop-i in
    (omega arith, omega arith, omega (arith, c.cast_unsigned-y.type_inv), c.put_run.auto.buffer ∙ p.invariant.3, come-on p.invariant.4 (over-now c.before.before.before.before.before) c.put_run.ensures (ap (λ (n : ℕ). p.at + n) (sym (length_run p.v p.n))))

pub put_run-requires-2 : goal.put_run-requires-2
put_run-requires-2 c = come-room c.loop-i.invariant.4 (last c.before) (length_run c.loop-i.v c.loop-i.n)

pub returns : goal.returns
returns c =
    let p = c.loop-i in
    come-end (come-on p.invariant.4 (last c.before.before.before.before.before) c.put_run-2.ensures refl) refl

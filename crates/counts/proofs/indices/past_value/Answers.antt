-- A short string ends with its bytes, and a short array of integers in their lead bytes with these; another value is stepped over.
use Prim.Native.Nat.{◌+◌, ◌≤◌}
use native.Mathlib.Omega.{arith}
use lib.ListN.{length}
use Rattle.counts.proofs.Laws.Indices.{short-end, integers-end}
use Rattle.counts.proofs.indices.past_value.Goals as goal

pub returns-then-all_low : goal.returns-then-all_low
returns-then-all_low c =
    λ e st. integers-end _ _ c.if-at-file.true (omega arith) (omega arith) c.from-count.ensures (c.all_low.ensures.0 c.if-all_low.true) st

pub returns-then-n-file : goal.returns-then-n-file
returns-then-n-file c =
    let a = c.args in
    let h : a.at + 1 + c.from-n.result ≤ length a.file.now = omega (arith, c.if-n-file.true) in
    λ e st. short-end _ _ c.if-at-file.true (omega arith) (omega arith) c.from-n.ensures h st

-- What is found from the row that is looked at on is what is found in the table.
use mathlib.Core.Path.{refl, sym, ◌∙◌}
use Prim.Native.Nat.{◌+◌, ◌≤◌}
use native.Mathlib.Omega.{arith}
use lib.ListN.{length}
use borrow.Author.Rules.{rules}
use Rattle.meanings.specs.Steps.{words_in}
use Rattle.meanings.specs.Laws.Steps.{line-inside, words-here, words-next, words-none}
use Rattle.meanings.proofs.words_in.Lts as lts
use Rattle.meanings.proofs.words_in.Reads as reads
use Rattle.meanings.proofs.words_in.Tie as tie
use Rattle.meanings.proofs.words_in.Goals as goal

-- the row that is looked at ends inside the table
inside : (c : lts.After-line_end tie.the-claims reads.Pre reads.Post goal.the-invariant-loop-row goal.the-decreases-loop-row) → (c.loop-row.row + 1 ≤ c.line_end-end.result) × (c.line_end-end.result ≤ length c.args.table.now)
inside c =
    let i = line-inside c.args.table.now (c.loop-row.row + 1) (omega (arith, c.loop-row-test.true)) in
    (omega (arith, i.0, c.line_end-end.ensures), omega (arith, i.1, c.line_end-end.ensures))

pub loop-row-init : goal.loop-row-init
unfolding words_in
loop-row-init c = refl

pub slice_bounds-result-count : goal.slice_bounds-result-count
slice_bounds-result-count c = (inside c.before.before.before.before).0

pub slice_bounds-result-start : goal.slice_bounds-result-start
slice_bounds-result-start c = let i = inside c.before.before.before.before in omega (arith, i.0, i.1)

pub slice_bounds-result-end : goal.slice_bounds-result-end
slice_bounds-result-end c = let i = inside c.before.before.before.before in omega (arith, i.0, i.1)

pub returns-then-wide-number : goal.returns-then-wide-number
returns-then-wide-number c =
    let a = c.args in
    let l = c.loop-row in
    words-here a.table.now a.number l.row c.loop-row-test.true c.line_end-end.ensures (sym c.wide.ensures ∙ c.if-wide-number.true) ∙ l.invariant

pub overflow_add-row-in-loop-row : goal.overflow_add-row-in-loop-row
overflow_add-row-in-loop-row c = let i = inside c.before.before.before.before in search (rules, i.1)

pub loop-row-smaller : goal.loop-row-smaller
loop-row-smaller c = let i = inside c.before.before.before.before in omega (arith, i.0, i.1)

pub loop-row-preserved : goal.loop-row-preserved
loop-row-preserved c =
    let a = c.args in
    let l = c.loop-row in
    words-next a.table.now a.number l.row c.loop-row-test.true c.line_end-end.ensures (λ q. c.if-wide-number.false (c.wide.ensures ∙ q)) ∙ l.invariant

pub returns : goal.returns
returns c =
    let a = c.args in
    words-none a.table.now a.number c.loop-row.row c.loop-row-test.false ∙ c.loop-row.invariant

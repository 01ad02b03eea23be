-- What is left to read, after the digits that are read, gives the line. Assumes nothing.
use mathlib.Core.Path.{sym, ap, ◌∙◌}
use Prim.Native.Nat.{ℕ, ◌+◌, ◌*◌}
use lib.ListN.{drop}
use Rattle.receipt.specs.Steps.{digits_at}
use Rattle.receipt.specs.Laws.Lines.{digits-none, digits-feed, digits-other, digits-next}
use Rattle.receipt.proofs.digits_at.Goals as goal

pub returns-then-byte-eq10 : goal.returns-then-byte-eq10
returns-then-byte-eq10 c =
    let at = c.loop-i in
    let s = c.args.bytes.now in
    digits-feed s at.said at.i c.loop-i-test.true c.if-byte-eq10.true ∙ at.invariant

pub returns-then-not-takes_digit : goal.returns-then-not-takes_digit
returns-then-not-takes_digit c =
    let at = c.loop-i in
    let s = c.args.bytes.now in
    digits-other s at.said at.i c.loop-i-test.true c.if-byte-eq10.false (sym c.takes_digit.ensures ∙ c.if-not-takes_digit.true)
    ∙ at.invariant

pub loop-i-preserved : goal.loop-i-preserved
loop-i-preserved c =
    let at = c.loop-i in
    let s = c.args.bytes.now in
    let takes = sym c.takes_digit.ensures ∙ c.if-not-takes_digit.false in
    ap (λ (d : ℕ). digits_at (drop (at.i + 1) s) (at.said * 10 + d) (at.i + 1)) c.from.ensures
    ∙ digits-next s at.said at.i c.loop-i-test.true c.if-byte-eq10.false takes
    ∙ at.invariant

pub returns : goal.returns
returns c =
    let at = c.loop-i in
    digits-none c.args.bytes.now at.said at.i c.loop-i-test.false ∙ at.invariant

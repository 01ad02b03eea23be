-- A byte that is a digit begins the number; nothing else does. Assumes nothing.
use mathlib.Core.Path.{sym, ap, ◌∙◌}
use Prim.Native.Nat.{ℕ, ◌+◌}
use lib.ListN.{drop}
use Rattle.receipt.specs.Steps.{digits_at}
use Rattle.receipt.specs.Laws.Lines.{number-none, number-other, number-begins}
use Rattle.receipt.proofs.number_at.Goals as goal

pub returns-then-bytes-at : goal.returns-then-bytes-at
returns-then-bytes-at c = let a = c.args in number-none a.bytes.now a.at c.if-bytes-at.true

pub returns-then-not-is_digit : goal.returns-then-not-is_digit
returns-then-not-is_digit c =
    let a = c.args in
    number-other a.bytes.now 0 a.at c.if-bytes-at.false (sym c.is_digit.ensures ∙ c.if-not-is_digit.true)

pub returns : goal.returns
returns c =
    let a = c.args in
    c.digits_at.ensures
    ∙ ap (λ (d : ℕ). digits_at (drop (a.at + 1) a.bytes.now) d (a.at + 1)) c.from.ensures
    ∙ number-begins a.bytes.now 0 a.at c.if-bytes-at.false (sym c.is_digit.ensures ∙ c.if-not-is_digit.false)

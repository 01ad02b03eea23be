-- Station and job, then the verdict, then the lines after it. Assumes nothing.
use mathlib.Core.Path.{sym, ◌∙◌}
use Rattle.receipt.specs.Receipt.{rules_kept}
use borrow.Author.Tests.{eq-eqb, ne_eqb, le-leb, lt-leb}
use Rattle.receipt.proofs.is_allowed.Goals as goal

pub returns-then-not-is_numbered : goal.returns-then-not-is_numbered
unfolding rules_kept
returns-then-not-is_numbered c = rw (sym c.is_numbered.ensures ∙ c.if-not-is_numbered.true)

pub returns-then-receipt-gt-VERDICT_LIMIT : goal.returns-then-receipt-gt-VERDICT_LIMIT
unfolding rules_kept
returns-then-receipt-gt-VERDICT_LIMIT c = rw (sym c.is_numbered.ensures ∙ c.if-not-is_numbered.false, lt-leb _ 24 c.if-receipt-gt-VERDICT_LIMIT.true)

pub returns-then-receipt-eq0 : goal.returns-then-receipt-eq0
unfolding rules_kept
returns-then-receipt-eq0 c = rw (sym c.is_numbered.ensures ∙ c.if-not-is_numbered.false, le-leb _ 24 c.if-receipt-gt-VERDICT_LIMIT.false, eq-eqb _ 0 c.if-receipt-eq0.true) c.is_accepted.ensures

pub returns : goal.returns
unfolding rules_kept
returns c = rw (sym c.is_numbered.ensures ∙ c.if-not-is_numbered.false, le-leb _ 24 c.if-receipt-gt-VERDICT_LIMIT.false, ne_eqb _ 0 c.if-receipt-eq0.false) c.is_refused.ensures

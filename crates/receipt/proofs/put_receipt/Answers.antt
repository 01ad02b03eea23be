-- The three parts are put one after another; the ten lines are the same however they are grouped. Assumes nothing.
use mathlib.Core.Path.{subst}
use mathlib.Core.List.{List}
use Prim.Native.Nat.{ℕ}
use Rattle.text.specs.Put.{Put}
use Rattle.text.specs.Laws.Put.{put-more}
use Rattle.receipt.specs.Laws.Rules.{written-parts}
use Rattle.receipt.proofs.put_receipt.Goals as goal

pub returns : goal.returns
returns c =
    subst (λ (l : List ℕ). Put c.args.page.now 0 l c.put_last.new.page c.put_last.result) (written-parts c.args.receipt)
    (put-more (put-more c.put_first-counts.ensures c.put_counts-last.ensures) c.put_last.ensures)

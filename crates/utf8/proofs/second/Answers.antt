-- `utf8::second` meets its contract: after a lead byte the check asks for a byte of its range. Assumes nothing.
use mathlib.Core.Path.{◌∙◌}
use native.Mathlib.Omega.{arith}
use Rattle.utf8.specs.Laws.Check.{is_lead-more}
use Rattle.utf8.specs.Laws.Step.{lead-more, forward-from}
use Rattle.utf8.proofs.second.Goals as goal

pub returns : goal.returns
returns c =
    let p = c.requires in
    record {
      by_index = (λ k e.
          lead-more p (is_lead-more _ p.least (omega arith))
          ∙ simp (e, ← c.lowest.ensures, ← c.highest.ensures) (c.follow.ensures.by_index k));
      forward = forward-from _ c.follow.result (omega arith) c.follow.ensures.forward;
    }

-- `utf8::two` meets its contract: one byte follows, or the first starts no character. Assumes nothing.
use Rattle.utf8.specs.Laws.Check.{is_lead-low, following-two}
use Rattle.utf8.specs.Laws.Step.{lead-fault}
use Rattle.utf8.proofs.two.Goals as goal

pub returns-then-lead-lt194 : goal.returns-then-lead-lt194
returns-then-lead-lt194 c = record { bytes_value = lead-fault c.requires (is_lead-low _ c.requires.least c.if-lead-lt194.true); forward = tt }

pub returns : goal.returns
returns c = record { bytes_value = c.second.ensures.by_index 0 (following-two _ c.requires.least c.requires.most); forward = c.second.ensures.forward }

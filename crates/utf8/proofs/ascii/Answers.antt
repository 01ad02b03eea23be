-- `utf8::ascii` meets its contract: it passes over one byte below 80, or over three runs of blocks one after another. Assumes nothing.
use native.Mathlib.Omega.{arith}
use Rattle.utf8.specs.Laws.Check.{ascii-at}
use Rattle.utf8.proofs.ascii.Goals as goal

pub returns-then-at-ne0 : goal.returns-then-at-ne0
returns-then-at-ne0 c = record { bytes_value = ascii-at _ _ c.requires.0 c.requires.1; lower_bound = omega arith }

pub returns-then-next-at : goal.returns-then-next-at
returns-then-next-at c = record { bytes_value = ascii-at _ _ c.requires.0 c.requires.1; lower_bound = omega arith }

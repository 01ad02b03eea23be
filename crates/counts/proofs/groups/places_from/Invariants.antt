-- The keys are sought all at once, entry by entry.
use Rattle.std.proofs.Common.{◌-◌}
use Rattle.values.specs.Laws.Seeking.{Left}
use Rattle.counts.proofs.Laws.Group.{SeekAll}
use Rattle.values.specs.Walked.{WalkedEntries}
use Rattle.counts.proofs.groups.places_from.Given as goal

abbrev pub invariant-loop : goal.invariant-loop
invariant-loop state = WalkedEntries state.file state.n state.at (λ es e. (l : Left state.file state.p (state.n - state.counter) e) × SeekAll state.file es l.rest state.places)

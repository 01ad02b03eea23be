-- The key is sought entry by entry, up to the end.
use Rattle.std.proofs.Common.{◌-◌}
use Rattle.text.specs.Ascii.{ascii}
use Rattle.values.specs.Seeking.{Seeking}
use Rattle.values.specs.Laws.Seeking.{Left}
use Rattle.values.specs.Walked.{WalkedEntries}
use Rattle.counts.proofs.indices.list_from.Given as goal

abbrev pub invariant-loop : goal.invariant-loop
invariant-loop state = WalkedEntries state.file state.n state.at (λ es e. (l : Left state.file state.p (state.n - state.counter) e) × Seeking state.file (ascii "chainIndexList") es l.rest state.found)

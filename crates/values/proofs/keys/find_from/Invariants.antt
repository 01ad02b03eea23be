-- The name is that of the entry at hand, or it is sought among those that are left.
use Prim.Native.Nat.{◌-◌}
use Rattle.values.specs.Seeking.{Seeking}
use Rattle.values.specs.Laws.Seeking.{Left}
use Rattle.values.specs.Walked.{WalkedEntries}
use Rattle.values.proofs.keys.find_from.Given as goal

abbrev pub invariant-loop-i : goal.invariant-loop-i
invariant-loop-i state = WalkedEntries state.file state.n state.at (λ es e. (l : Left state.file state.p (state.n - state._i) e) × Seeking state.file state.name es l.rest 0)

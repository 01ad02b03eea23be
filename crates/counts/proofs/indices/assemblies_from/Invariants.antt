-- What is left of the assemblies decides, since those before list indices of chains only.
use Rattle.std.proofs.Common.{◌-◌}
use Rattle.counts.specs.Indices.{transforms_inside}
use Rattle.counts.proofs.Laws.Indices.{Judging}
use Rattle.values.specs.Walked.{WalkedAll}
use Rattle.counts.proofs.indices.assemblies_from.Given as goal

abbrev pub invariant-loop : goal.invariant-loop
invariant-loop l = WalkedAll l.file l.n l.at (λ ds e. Judging l.file ds (transforms_inside l.chains) l.p (l.n - l.counter) e)

-- The set of all rows has the required ones.
use mathlib.Core.Path.{sym, ap, ◌∙◌}
use Prim.Native.Nat.{ℕ, ◌+◌}
use Rattle.fields.specs.Laws.Numbers.{covered-all}
use Rattle.fields.proofs.all_seen.Goals as goal

pub returns-then-seen-full : goal.returns-then-seen-full
returns-then-seen-full c =
    let a = c.args in
    λ f. sym (covered-all f a.n a.first a.seen (ap (λ (x : ℕ). x + 1) c.if-seen-full.true ∙ c.full.ensures))

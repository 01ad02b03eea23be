-- The integer at the place is counted, and a count is at most one above the limit.
use mathlib.Core.Path.{◌≡◌, ap, ◌∙◌}
use mir.Syntax.{w32}
use mir.Val.{to_z, of_z}
use mir.Facts.{to_z-of_z}
use Rattle.counts.specs.Steps.{as_count}
use Rattle.counts.proofs.Laws.Steps.{count_most}
use Rattle.counts.proofs.count_at.Goals as goal

pub returns : goal.returns
returns c =
    let z : to_z w32 (of_z w32 c.integer_at.result) ≡ c.integer_at.result = to_z-of_z {w = w32} (record { sfits = c.integer_at.type_inv }) in
    let n : c.as_count.result ≡ as_count c.integer_at.result = c.as_count.ensures ∙ ap as_count z in
    record { small = count_most c.integer_at.result n; integer = λ x e a. n ∙ ap as_count (c.integer_at.ensures.says x e a) }

-- The limits are what is more than the results: few of them leave every result exact (`few-judged`), and so do short rows (`rows-judged`).
use Rattle.std.proofs.Common.{ℕ, ◌-◌, ◌*◌, ◌<◌, ◌≤◌, length, sym, refl, ap, ◌∙◌, arith}
use borrow.Author.Tests.{not-true}
use Rattle.steps.specs.Width.{size_of}
use Rattle.payloads.specs.Limits.{packed_size, exact_limits}
use Rattle.payloads.specs.Blocks.{count_in}
use Rattle.payloads.specs.Laws.Limits.{count-within, rows-judged}
use Rattle.payloads.specs.Laws.Small.{few-judged}
use Rattle.payloads.proofs.has_short_rows.Goals as goal

pub returns-then-saturating_sub-exact_limits : goal.returns-then-saturating_sub-exact_limits
returns-then-saturating_sub-exact_limits c e r =
    let a = c.args in
    let l = ap (λ (n : ℕ). n - a.length) (sym c.count_of-count.ensures) ∙ sym c.saturating_sub.ensures in
    let k = c.exact_limits.ensures in
    let h : count_in (packed_size a.two) a.payload.now - a.length ≤ exact_limits a.two = omega (arith, c.if-saturating_sub-exact_limits.true) in
    few-judged a.two _ a.payload.now a.length refl r h

pub returns-else-saturating_sub-exact_limits : goal.returns-else-saturating_sub-exact_limits
returns-else-saturating_sub-exact_limits c e r =
    let a = c.args in
    let w = count-within (packed_size a.two) (length a.payload.now) in
    let h : size_of (packed_size a.two) * c.count_of-count.result ≤ length a.payload.now = rw c.count_of-count.ensures w.0 in
    let g : length a.payload.now - size_of (packed_size a.two) * c.count_of-count.result < size_of (packed_size a.two) = rw c.count_of-count.ensures w.1 in
    rows-judged a.two _ a.length a.payload.now c.count_of-count.result h g refl (c.has_row.ensures (not-true _ e)) r

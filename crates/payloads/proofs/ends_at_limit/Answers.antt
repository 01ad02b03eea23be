-- The last number is the one whose limit is asked for; of no numbers there is none.
use Rattle.std.proofs.Common.{ℕ, ℤ, sym, ◌∙◌, ap₂, to_z-of_z, w32}
use Rattle.numbers.specs.BigEndian.{signed_at}
use Rattle.steps.specs.declared.Size.{Size}
use Rattle.steps.specs.Width.{width_of, upper, lower}
use Rattle.steps.specs.Packing.{is_limit}
use Rattle.payloads.specs.Limits.{packed_size}
use Rattle.payloads.specs.Laws.Limits.{ends-none, ends_last}
use Rattle.payloads.proofs.ends_at_limit.Goals as goal

pub returns-then-count-eq0 : goal.returns-then-count-eq0
returns-then-count-eq0 c = let a = c.args in sym (ends-none (packed_size a.two) a.payload.now a.count c.if-count-eq0.true)

pub returns : goal.returns
returns c =
    let a = c.args in
    let z = c.packed_size-size.ensures in
    c.is_limit.ensures ∙ ap₂ (λ (k : Size) (x : ℤ). is_limit (upper k) (lower k) x) z
    (to_z-of_z {w = w32} (record { sfits = c.number_at.type_inv }) ∙ c.number_at.ensures ∙ ap₂ (λ (k : Size) (i : ℕ). signed_at (width_of k) a.payload.now i) z c.place_of.ensures)
    ∙ sym (ends_last (packed_size a.two) a.payload.now a.count c.if-count-eq0.false)

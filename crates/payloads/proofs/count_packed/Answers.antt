-- Where no row of limits is long every sum is inside 32 bits, so that each other number ends a result (`limits-other`, `limits-all`);
-- else the other loop does the work.
use Rattle.std.proofs.Common.{◌≡◌, ℕ, Bool, false, List, ◌/◌, ◌-◌, ◌*◌, ◌<◌, ◌≤◌, length, sym, ap, ◌∙◌, arith}
use Rattle.steps.specs.declared.Size.{Size}
use Rattle.steps.specs.declared.Form.TheVariants.{Packed}
use Rattle.steps.specs.Width.{size_of}
use Rattle.steps.specs.Payload.{read_in}
use Rattle.payloads.specs.Scan.{refusal_of}
use Rattle.payloads.specs.Items.{outcome_refusal}
use Rattle.payloads.specs.Laws.Refusal.{outcome-scan}
use Rattle.payloads.specs.Limits.{packed_size}
use Rattle.payloads.specs.Laws.Limits.{count-within, limits-few, limits-unfinished, limits-other, limits-all}
use Rattle.payloads.proofs.count_packed.Goals as goal

-- so many numbers are inside, and fewer bytes than one has are left
inside : (two : Bool) (s : List ℕ) (k : ℕ) → k ≡ length s / size_of (packed_size two)
    → (size_of (packed_size two) * k ≤ length s) × (length s - size_of (packed_size two) * k < size_of (packed_size two))
inside two s k e = rw e (count-within (packed_size two) (length s))

pub returns-then-ends_at_limit : goal.returns-then-ends_at_limit
returns-then-ends_at_limit c =
    let a = c.args in
    let k = c.count_of-count.result in
    let i = inside a.two a.payload.now k c.count_of-count.ensures in
    limits-unfinished a.two a.length a.payload.now k i.0 i.1 (c.sums_fit.ensures c.if-not-sums_fit.false) (sym c.ends_at_limit.ensures ∙ c.if-ends_at_limit.true)

pub overflow_sub-count : goal.overflow_sub-count
overflow_sub-count c = let a = c.args in let e = c.count_limits-limits.ensures in omega (arith, limits-few (packed_size a.two) a.payload.now 0 c.count_of-count.result)

pub returns-then-count-limits : goal.returns-then-count-limits
returns-then-count-limits c =
    let a = c.args in
    let k = c.count_of-count.result in
    let i = inside a.two a.payload.now k c.count_of-count.ensures in
    let e = c.count_limits-limits.ensures in
    let q = c.if-count-limits.true in
    limits-other a.two a.length a.payload.now k i.0 i.1 (c.sums_fit.ensures c.if-not-sums_fit.false) (sym c.ends_at_limit.ensures ∙ c.if-ends_at_limit.false) (λ x. q (ap (λ (m : ℕ). c.count_of-count.result - m) e ∙ x))

pub returns : goal.returns
returns c =
    let a = c.args in
    let k = c.count_of-count.result in
    let i = inside a.two a.payload.now k c.count_of-count.ensures in
    let e = c.count_limits-limits.ensures in
    limits-all a.two a.length a.payload.now k i.0 i.1 (c.sums_fit.ensures c.if-not-sums_fit.false) (sym c.ends_at_limit.ensures ∙ c.if-ends_at_limit.false) (sym (ap (λ (m : ℕ). c.count_of-count.result - m) e) ∙ omega (arith, c.if-count-limits.false))

pub returns-then-not-sums_fit : goal.returns-then-not-sums_fit
returns-then-not-sums_fit c =
    let a = c.args in
    let z = c.packed_size.result in
    c.refusal_in.ensures ∙ ap outcome_refusal c.scan_packed.ensures ∙ outcome-scan (Packed z) false a.length (read_in (Packed z) a.payload.now)
    ∙ ap (λ (y : Size). refusal_of a.length (read_in (Packed y) a.payload.now)) c.packed_size.ensures

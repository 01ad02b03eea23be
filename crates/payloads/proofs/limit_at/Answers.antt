-- Each arm reads a number of its size.
use Rattle.std.proofs.Common.{◌+◌, ◌≤◌, Bool, cond, length, ℤ, sym, ap, ◌∙◌, subst}
use Rattle.steps.specs.Width.{size_of}
use Rattle.steps.specs.Packing.{is_limit}
use Rattle.payloads.specs.Limits.{packed_size, limit_at}
use Rattle.payloads.specs.Laws.Limits.{byte_signed}
use Rattle.payloads.proofs.limit_at.Goals as goal

pub returns : goal.returns
returns c =
    let a = c in
    let h = subst (λ (t : Bool). a.args.at + size_of (packed_size t) ≤ length a.args.payload.now) c.if-two.false a.requires in
    c.byte_at_limit.ensures ∙ ap (λ (x : ℤ). cond (is_limit 127 128 x) 1 0) (sym (byte_signed a.args.payload.now a.args.at h))
    ∙ ap (λ (t : Bool). limit_at (packed_size t) a.args.payload.now a.args.at) (sym c.if-two.false)

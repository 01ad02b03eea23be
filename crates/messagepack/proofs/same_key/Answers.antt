-- Both heads are there, and what is compared are the keys' bytes.
use Rattle.std.proofs.Common.{◌≡◌, ◌+◌, ◌-◌, sym, ◌∙◌, ap₂, arith}
use Rattle.text.specs.Equal.{equal}
use Rattle.messagepack.proofs.Laws.Tables.{there-read, there-head}
use Rattle.messagepack.proofs.same_key.Goals as goal

pub returns-in_default : goal.returns-in_default
returns-in_default c = absurd (there-head _ c.requires.0 (sym (c.head_at.ensures.rule) ∙ c.in_default.is))

pub returns-in_default-head_at : goal.returns-in_default-head_at
returns-in_default-head_at c = absurd (there-head _ c.requires.1 (sym (c.head_at-2.ensures.rule) ∙ c.in_default-head_at.is))

pub overflow_add-a : goal.overflow_add-a
overflow_add-a c = omega (arith, (there-read c.requires.0 (sym (c.head_at.ensures.rule) ∙ c.in-Some.is)).0)

pub slice_bounds-same_bytes-end : goal.slice_bounds-same_bytes-end
slice_bounds-same_bytes-end c = (there-read c.requires.0 (sym (c.head_at.ensures.rule) ∙ c.in-Some.is)).0

pub overflow_add-b : goal.overflow_add-b
overflow_add-b c = omega (arith, (there-read c.requires.1 (sym (c.head_at-2.ensures.rule) ∙ c.in-Some-head_at.is)).0)

pub slice_bounds-same_bytes-end-2 : goal.slice_bounds-same_bytes-end-2
slice_bounds-same_bytes-end-2 c = (there-read c.requires.1 (sym (c.head_at-2.ensures.rule) ∙ c.in-Some-head_at.is)).0

pub returns : goal.returns
returns c =
    let x = there-read c.requires.0 (sym (c.head_at.ensures.rule) ∙ c.in-Some.is) in
    let y = there-read c.requires.1 (sym (c.head_at-2.ensures.rule) ∙ c.in-Some-head_at.is) in
    let a = c.in-Some.a in
    let b = c.in-Some-head_at.b in
    let i : a.end + a.number - a.end ≡ a.number = omega arith in
    let j : b.end + b.number - b.end ≡ b.number = omega arith in
    rw (i, j) at c.same_bytes.ensures ∙ ap₂ equal (sym x.1) (sym y.1)

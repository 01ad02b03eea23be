-- What is found from the row here on is what is found from the start: the entry of this row is shown, or the search goes on with the next.
use mathlib.Core.Path.{◌≡◌, refl, sym, ap, ◌∙◌}
use mathlib.Core.Bool.{true}
use Prim.Native.Nat.{ℕ, ◌+◌}
use native.Mathlib.Omega.{arith}
use lib.ListN.{length, drop}
use Rattle.text.specs.Equal.{equal}
use Rattle.views.specs.Shown.{shown_place}
use Rattle.views.specs.Laws.Search.{look-first, look-last, look-next, look-read, look-inside, look-cut, look-found, look-on, next-same}
use Rattle.views.proofs.entry.Goals as goal

pub loop-place-init : goal.loop-place-init
loop-place-init c = look-first _ c.requires

pub returns-in_default : goal.returns-in_default
returns-in_default c =
    absurd (look-cut c.args.name.now c.loop-place.invariant c.loop-place-test.true refl (sym (c.head_at.ensures.rule) ∙ c.in_default.is))

pub overflow_add-value : goal.overflow_add-value
overflow_add-value c = omega (arith, look-inside c.args.name.now c.loop-place.invariant c.loop-place-test.true refl (sym (c.head_at.ensures.rule) ∙ c.in-Some.is))

pub slice_bounds-same_bytes-end : goal.slice_bounds-same_bytes-end
slice_bounds-same_bytes-end c = look-inside c.args.name.now c.loop-place.invariant c.loop-place-test.true refl (sym (c.head_at.ensures.rule) ∙ c.in-Some.is)

pub returns-then-same_bytes : goal.returns-then-same_bytes
returns-then-same_bytes c =
    let s = c.args.file.now in
    let name = c.args.name.now in
    let g = c.loop-place.invariant in
    let lt = c.loop-place-test.true in
    let m = c.in-Some.head.number in
    let a = c.in-Some.head.end in
    let n = look-next name g lt in
    let r = look-read name g lt refl (sym (c.head_at.ensures.rule) ∙ c.in-Some.is) in
    let at : a + m ≡ n.from + length n.k = omega arith in
    let e : equal n.k name ≡ true = next-same n name a m r.0 r.1 (sym c.same_bytes.ensures ∙ c.if-same_bytes.true) in
    c.part.ensures n.x n.w n.v n.writes (ap (λ (i : ℕ). drop i s) at ∙ n.value) ∙ ap (λ (i : ℕ). shown_place i n.x n.w) at ∙ look-found name g lt e

pub loop-place-preserved : goal.loop-place-preserved
loop-place-preserved c =
    let name = c.args.name.now in
    let g = c.loop-place.invariant in
    let lt = c.loop-place-test.true in
    let m = c.in-Some.head.number in
    let a = c.in-Some.head.end in
    let n = look-next name g lt in
    let r = look-read name g lt refl (sym (c.head_at.ensures.rule) ∙ c.in-Some.is) in
    look-on name g lt (next-same n name a m r.0 r.1 (sym c.same_bytes.ensures ∙ c.if-same_bytes.false))

pub returns : goal.returns
returns c = look-last _ c.loop-place.invariant c.loop-place-test.false

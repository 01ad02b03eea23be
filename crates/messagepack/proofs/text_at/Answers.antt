-- Each case of head and body is a case of the definition; the part that is tested is the body.
use Rattle.std.proofs.Common.{◌≡◌, ℕ, ◌-◌, true, false, take, drop, sym, ap, ◌∙◌, arith}
use Rattle.std.proofs.lemmas.Result.{err_from_is_err_and}
use Rattle.utf8.specs.Check.{is_utf8}
use Rattle.messagepack.proofs.Laws.Walk.{body_end, text-cut, text-short, text-tested}
use Rattle.messagepack.proofs.text_at.Goals as goal

pub slice_bounds-is_utf8-count : goal.slice_bounds-is_utf8-count
slice_bounds-is_utf8-count c = omega (arith, body_end _ _ _ (sym c.in_ok-end.ensures))

pub slice_bounds-is_utf8-start : goal.slice_bounds-is_utf8-start
slice_bounds-is_utf8-start c = omega (arith, body_end _ _ _ (sym c.in_ok-end.ensures))

pub slice_bounds-is_utf8-end : goal.slice_bounds-is_utf8-end
slice_bounds-is_utf8-end c = omega (arith, body_end _ _ _ (sym c.in_ok-end.ensures))

pub returns-in_default : goal.returns-in_default
returns-in_default c = sym (text-cut _ _ (sym (c.head_at.ensures.rule) ∙ c.in_default.is))

pub returns-in_err-end : goal.returns-in_err-end
returns-in_err-end c =
    let p = err_from_is_err_and c.from_residual.result c.from_residual.ensures.1 in
    rw (p.1, p.2) (sym (text-short _ _ (sym (c.head_at.ensures.rule) ∙ c.in-Some.is) (sym c.in_err-end.ensures)))

pub returns-then-is_utf8 : goal.returns-then-is_utf8
returns-then-is_utf8 c =
    let h = c.in-Some.head in
    let e = body_end _ _ _ (sym c.in_ok-end.ensures) in
    let size : c.in_ok-end.end - h.end ≡ h.number = omega arith in
    sym (text-tested _ _ true (sym (c.head_at.ensures.rule) ∙ c.in-Some.is) (sym c.in_ok-end.ensures) (ap (λ (k : ℕ). is_utf8 (take k (drop h.end c.args.file.now))) (sym size) ∙ sym c.is_utf8.ensures.value ∙ c.if-is_utf8.true))

pub returns-else-is_utf8 : goal.returns-else-is_utf8
returns-else-is_utf8 c =
    let h = c.in-Some.head in
    let e = body_end _ _ _ (sym c.in_ok-end.ensures) in
    let size : c.in_ok-end.end - h.end ≡ h.number = omega arith in
    sym (text-tested _ _ false (sym (c.head_at.ensures.rule) ∙ c.in-Some.is) (sym c.in_ok-end.ensures) (ap (λ (k : ℕ). is_utf8 (take k (drop h.end c.args.file.now))) (sym size) ∙ sym c.is_utf8.ensures.value ∙ c.if-is_utf8.false))

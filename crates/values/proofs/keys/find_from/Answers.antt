-- The name is that of the entry at hand, or it is sought among those that are left.
use mathlib.Core.Path.{sym, subst, ◌∙◌}
use Prim.Native.Nat.{ℕ}
use native.Mathlib.Omega.{arith}
use Rattle.values.specs.Places.{AtEntries}
use Rattle.values.specs.Laws.Places.{at-standing}
use Rattle.values.specs.Laws.Seeking.{turn, seeking-start, seeking-end, seeking-found, seeking-turn, part-equal}
use Rattle.values.proofs.keys.find_from.Goals as goal

pub loop-i-init : goal.loop-i-init
loop-i-init c = λ es e a k. (record { rest = es; all = a; counts = omega (arith, k) }, seeking-start)

pub returns-then-same_bytes : goal.returns-then-same_bytes
returns-then-same_bytes c =
    λ es e a k.
    let i = c.loop-i.invariant es e a k in
    let u = turn i.0 (omega arith) c.key_at-key.result (λ x f d. c.key_at-key.ensures.says x f d) in
    let same = part-equal _ _ c.key_at-key.result.at c.key_at-key.result.count (sym c.same_bytes.ensures ∙ c.if-same_bytes.true) in
    let r = seeking-turn i.1 u in
    seeking-found (rw same at r) u.positive

pub loop-i-preserved : goal.loop-i-preserved
loop-i-preserved c =
    λ es e a k.
    let i = c.loop-i.invariant es e a k in
    let u = turn i.0 (omega arith) c.key_at-key.result (λ x f d. c.key_at-key.ensures.says x f d) in
    let same = part-equal _ _ c.key_at-key.result.at c.key_at-key.result.count (sym c.same_bytes.ensures ∙ c.if-same_bytes.false) in
    let r = seeking-turn i.1 u in
    let end = c.skip-p.ensures u.q (at-standing u.value) in
    (record { rest = u.after; all = subst (λ (j : ℕ). AtEntries c.args.file.now j u.after e) (sym end) u.all; counts = omega (arith, u.counts) }, rw same at r)

pub returns : goal.returns
returns c =
    λ es e a k.
    let i = c.loop-i.invariant es e a k in
    seeking-end i.0.rest i.1 (omega (arith, i.0.counts))

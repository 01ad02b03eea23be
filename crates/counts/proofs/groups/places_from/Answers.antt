-- The keys are sought all at once, entry by entry.
use mathlib.Core.Path.{◌≡◌, sym, subst, ◌∙◌}
use Prim.Native.Nat.{ℕ, ◌+◌, ◌-◌}
use native.Mathlib.Omega.{arith}
use Rattle.values.specs.Places.{AtEntries}
use Rattle.values.specs.Laws.Places.{at-standing}
use Rattle.values.specs.Laws.Seeking.{turn}
use Rattle.counts.proofs.Laws.Group.{seek-start, seek-turn, seek-end, entries-end}
use Rattle.counts.proofs.groups.places_from.Goals as goal

pub loop-init : goal.loop-init
loop-init c = λ es e a k. (record { rest = es; all = a; counts = omega (arith, k) }, seek-start)

pub loop-preserved : goal.loop-preserved
loop-preserved c =
    λ es e a k.
    let i = c.loop.invariant es e a k in
    let u = turn i.0 (omega arith) c.text_at-key.result (λ x f d. c.text_at-key.ensures.says x f d) in
    let k : c.args.n - c.loop.counter - 1 ≡ c.args.n - (c.loop.counter + 1) = omega arith in
    let end = c.skip-p.ensures u.q (at-standing u.value) in
    (record { rest = u.after; all = subst (λ (j : ℕ). AtEntries c.args.file.now j u.after e) (sym end) u.all; counts = u.counts ∙ k }, rw c.note-places.ensures (seek-turn u i.1))

pub returns : goal.returns
returns c =
    λ es e a k.
    let i = c.loop.invariant es e a k in
    record { lists = seek-end i.0.rest i.1 (omega (arith, i.0.counts)); ends = entries-end i.0.rest i.0.all (omega (arith, i.0.counts)) }

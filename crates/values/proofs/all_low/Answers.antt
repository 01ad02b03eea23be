-- No byte so far is larger than the largest, which is below all that they are below.
use mathlib.Core.Path.{◌≡◌, ap, ◌∙◌}
use Prim.Native.Nat.{ℕ, ◌+◌, ◌-◌, ◌<◌, max}
use native.Mathlib.Omega.{arith}
use lib.ListN.{get_or, take, drop}
use Rattle.std.proofs.Common.{below_more}
use Rattle.std.proofs.lemmas.List.{length-take, get_or-take, get_or-drop}
use Rattle.values.proofs.all_low.Goals as goal

pub loop-b-preserved : goal.loop-b-preserved
loop-b-preserved c =
    let a = c.args in
    let p = c.loop-b in
    let s = a.file.now in
    let n = a.at + a.n - a.at in
    let i : p.b-index < n = omega (arith, c.loop-b-test.true, length-take n (drop a.at s)) in
    let read : get_or (take n (drop a.at s)) p.b-index 0 ≡ get_or s (a.at + p.b-index) 0 = get_or-take n (drop a.at s) p.b-index 0 i ∙ get_or-drop a.at s p.b-index 0 in
    let m : c.max-most.result ≡ max p.most (get_or s (a.at + p.b-index) 0) = c.max-most.ensures ∙ ap (λ (b : ℕ). max p.most b) read in (
      below_more _ _ (λ j h. omega (arith, p.invariant.0 j h, m)) (omega (arith, m)),
      λ k h all. let l = p.invariant.1 k h (λ j i. all j (omega arith)) in omega (arith, all p.b-index (omega arith), m),
    )

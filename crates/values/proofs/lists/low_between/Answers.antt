-- Every byte lies between the two numbers.
use Rattle.std.proofs.Common.{rules, tests, arith, ◌≡◌, subst, ◌∙◌, true, false, ℕ, ◌+◌, ◌<◌, pos, length, get_or, take, drop}
use Rattle.std.proofs.lemmas.Bool.{MatchBool-at_true}
use Rattle.std.proofs.lemmas.Iterator.{cases_from_all, YieldsList-from_slice}
use Rattle.std.proofs.lemmas.List.{length-take, length-drop, get_or-take, get_or-drop}
use Rattle.numbers.specs.Ranges.{between}
use Rattle.values.proofs.lists.low_between.Goals as goal

pub returns : goal.returns
returns c =
    let x = c.args in
    let xs = take x.n (drop x.at x.file.now) in
    let a = cases_from_all _ _ _ (λ b. between c.args.low c.args.high (pos b) ≡ true) (λ b. between c.args.low c.args.high (pos b) ≡ false) c.all.ensures.ran (YieldsList-from_slice xs (search rules)) (λ x q k. search (rules, tests)) (λ x q k. search (rules, tests)) in
    λ t i lt.
    let read : get_or xs i 0 ≡ get_or x.file.now (x.at + i) 0 = get_or-take x.n (drop x.at x.file.now) i 0 lt ∙ get_or-drop x.at x.file.now i 0 in
    let l : i < length xs = omega (arith, length-take x.n (drop x.at x.file.now), length-drop x.at x.file.now, c.requires) in
    subst (λ (b : ℕ). between x.low x.high (pos b) ≡ true) read (MatchBool-at_true _ _ t a i 0 (omega arith) l)

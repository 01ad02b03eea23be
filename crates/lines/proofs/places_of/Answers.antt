-- Each arm is a power of ten; what is left is none of them.
use mathlib.Core.Path.{sym, ap, ◌∙◌}
use native.Mathlib.Omega.{arith}
use Rattle.lines.specs.Texts.{places_below, places_of}
use Rattle.lines.specs.Laws.Texts.{places-past}
use Rattle.lines.proofs.places_of.Goals as goal

pub returns-in-1 : goal.returns-in-1
unfolding places_below places_of
returns-in-1 c = ap places_of (sym c.in-1.is)

pub returns-in-10 : goal.returns-in-10
unfolding places_below places_of
returns-in-10 c = ap places_of (sym c.in-10.is)

pub returns-in-100 : goal.returns-in-100
unfolding places_below places_of
returns-in-100 c = ap places_of (sym c.in-100.is)

pub returns-in-1000 : goal.returns-in-1000
unfolding places_below places_of
returns-in-1000 c = ap places_of (sym c.in-1000.is)

pub returns-in-10000 : goal.returns-in-10000
unfolding places_below places_of
returns-in-10000 c = ap places_of (sym c.in-10000.is)

pub returns-in-100000 : goal.returns-in-100000
unfolding places_below places_of
returns-in-100000 c = ap places_of (sym c.in-100000.is)

pub returns-in-1000000 : goal.returns-in-1000000
unfolding places_below places_of
returns-in-1000000 c = ap places_of (sym c.in-1000000.is)

pub returns-in-10000000 : goal.returns-in-10000000
unfolding places_below places_of
returns-in-10000000 c = ap places_of (sym c.in-10000000.is)

pub returns-in-100000000 : goal.returns-in-100000000
unfolding places_below places_of
returns-in-100000000 c = ap places_of (sym c.in-100000000.is)

pub returns-in-1000000000 : goal.returns-in-1000000000
unfolding places_below places_of
returns-in-1000000000 c = ap places_of (sym c.in-1000000000.is)

pub returns-in_default : goal.returns-in_default
unfolding places_below places_of
returns-in_default c =
    let d = c.args.divisor in
    sym
    (places-past 9 d (λ e. omega arith)
    ∙ places-past 8 d (λ e. omega arith)
    ∙ places-past 7 d (λ e. omega arith)
    ∙ places-past 6 d (λ e. omega arith)
    ∙ places-past 5 d (λ e. omega arith)
    ∙ places-past 4 d (λ e. omega arith)
    ∙ places-past 3 d (λ e. omega arith)
    ∙ places-past 2 d (λ e. omega arith)
    ∙ places-past 1 d (λ e. omega arith)
    ∙ places-past 0 d (λ e. omega arith))

-- The places tell the form; a divisor with places is not 0.
use mathlib.Core.Path.{sym, ap, ◌∙◌}
use mathlib.Core.List.{[], ◌∷◌, append_assoc}
use Rattle.text.specs.Decimal.{decimal}
use Rattle.text.specs.Laws.Put.{put-more, put_as}
use Rattle.std.specs.Prelude.{Option, ℕ}
use Rattle.lines.specs.Texts.{quotient_text}
use Rattle.lines.specs.Laws.Texts.{places-positive}
use Rattle.lines.proofs.put_magnitude.Goals as goal

pub nonzero_div-number : goal.nonzero_div-number
nonzero_div-number c = places-positive _ _ (sym c.in-Some.is ∙ c.requires)

pub returns-in-Some : goal.returns-in-Some
returns-in-Some c =
    let a = c.args in
    put_as (put-more c.put_decimal-point.ensures c.put_fraction.ensures)
    (ap (λ (p : Option ℕ). quotient_text p a.divisor a.number) (sym c.requires ∙ c.in-Some.is))

pub returns-in-None : goal.returns-in-None
returns-in-None c =
    let a = c.args in
    put_as (put-more (put-more c.put_decimal-slash.ensures c.put_byte-over.ensures) c.put_decimal.ensures)
    (ap (λ (p : Option ℕ). quotient_text p a.divisor a.number) (sym c.requires ∙ c.in-None.is)
    ∙ sym (append_assoc (decimal a.number) (47 ∷ []) (decimal a.divisor)))

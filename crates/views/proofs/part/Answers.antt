-- A string or a binary shows its body, another value the whole.
use mathlib.Core.Path.{sym, ap, ◌∙◌}
use Rattle.views.specs.Place.{is_text}
use Rattle.views.specs.Laws.Shown.{body-shows, whole-shows}
use Rattle.views.proofs.part.Goals as goal

pub returns-then-is_text : goal.returns-then-is_text
returns-then-is_text c = body-shows _ _ (ap is_text (sym (c.kind_at.ensures.rule)) ∙ sym c.is_text.ensures ∙ c.if-is_text.true) c.body.ensures

pub returns-else-is_text : goal.returns-else-is_text
returns-else-is_text c = whole-shows _ _ (ap is_text (sym (c.kind_at.ensures.rule)) ∙ sym c.is_text.ensures ∙ c.if-is_text.false) c.whole.ensures

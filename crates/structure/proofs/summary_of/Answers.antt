-- An accepted file has its counts and fields, another one its number.
use mathlib.Core.Path.{sym, ap, ◌∙◌}
use Rattle.refusal.specs.Outcome.{number_of}
use Rattle.structure.proofs.Laws.Summary.{refusal-numbered, summary-number}
use Rattle.structure.proofs.summary_of.Goals as goal

pub returns-in-Err : goal.returns-in-Err
returns-in-Err c = c.refused_with.ensures ∙ summary-number _ _ (refusal-numbered _) (sym (ap number_of c.in-Err.is) ∙ c.judged.ensures.number)

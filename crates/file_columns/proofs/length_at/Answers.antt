-- The length is the one that the header states.
use Rattle.std.specs.Prelude.{Some}
use Rattle.std.proofs.Common.{ap, ◌∙◌}
use Rattle.file_columns.specs.Laws.Steps.{read_length}
use Rattle.file_columns.proofs.length_at.Goals as goal

pub returns : goal.returns
returns c = λ o p r. ap Some c.stated_length.ensures ∙ read_length p c.if-at-eq0.false c.text_at-part.result (λ x e a. c.text_at-part.ensures.says x e a) c.args.wanted r

-- Fewer than three bytes do not; of others the first three are tested.
use mathlib.Core.Path.{sym}
use Rattle.fields.specs.Laws.Fields.{text-short}
use Rattle.fields.proofs.is_version_one.Goals as goal

pub returns-then-text-lt3 : goal.returns-then-text-lt3
returns-then-text-lt3 c = sym (text-short c.args.text.now c.if-text-lt3.true)

-- A value of a kind that holds no others ends with its head or its body.
use Rattle.fields.specs.Laws.Steps.{value-cut, head_read, plain-says}
use Rattle.fields.specs.Types.{plain}
use Rattle.fields.specs.Tests.{typed}
use Rattle.fields.proofs.headed_at.Goals as goal

pub returns-in_default : goal.returns-in_default
returns-in_default c =
    let a = c.args in
    value-cut a.file.now a.at (typed (plain a.wanted)) c.head_at.ensures.rule c.in_default.is

pub returns : goal.returns
returns c =
    let a = c.args in
    plain-says (head_read a.file.now a.at c.head_at.ensures.rule c.in-Some.is c.kind_at.ensures.rule c.head_kind-kind.ensures) a.wanted c.requires c.plain_end.ensures

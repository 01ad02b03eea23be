-- A string whose head is its lead byte has its bytes behind it; another value goes by the table.
use Rattle.heads.specs.Table.{lead_table}
use Rattle.values.specs.Laws.Heads.{body-part, body-inside, text-short}
use Rattle.values.specs.Laws.Places.{read_short}
use Rattle.values.proofs.text_at.Goals as goal

pub returns-then-b-lt192 : goal.returns-then-b-lt192
returns-then-b-lt192 c =
    let a = c.args in
    let y = c.body.ensures in
    let l = c.if-at-file.true in
    let low = c.if-b-lt160.false in
    let high = c.if-b-lt192.true in
    let n = c.from.ensures in
    record { inside = body-inside _ _ _ y; table = text-short lead_table a.file.now a.at l low high n y; says = λ x e d. read_short x d l low high n c.body.result (body-part _ _ _ y) }

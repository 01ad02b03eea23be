-- Each kind of the outer value is a case of the definition; only a map's keys are looked for.
use Rattle.std.proofs.Common.{sym, ◌∙◌, lit<}
use Rattle.messagepack.proofs.Laws.Walk.{file-over, file-by, file-other}
use Rattle.messagepack.proofs.Laws.Outer.{keys-refused}
use Rattle.messagepack.proofs.keys.Goals as goal

pub returns-then-file-gt-FILE_LIMIT : goal.returns-then-file-gt-FILE_LIMIT
returns-then-file-gt-FILE_LIMIT c =
    let r = keys-refused _ _ (file-over _ c.if-file-gt-FILE_LIMIT.true) (lit< tt) in
    record { answer = r.0; places = r.1 }

pub returns-in-Missing : goal.returns-in-Missing
returns-in-Missing c =
    let r = keys-refused _ _ (file-by _ c.if-file-gt-FILE_LIMIT.false (sym (c.kind_at.ensures.rule) ∙ c.in-Missing.is)) (lit< tt) in
    record { answer = r.0; places = r.1 }

pub returns-in-Outside : goal.returns-in-Outside
returns-in-Outside c =
    let r = keys-refused _ _ (file-by _ c.if-file-gt-FILE_LIMIT.false (sym (c.kind_at.ensures.rule) ∙ c.in-Outside.is)) (lit< tt) in
    record { answer = r.0; places = r.1 }

pub returns-in-Unsigned : goal.returns-in-Unsigned
returns-in-Unsigned c =
    let r = keys-refused _ _ (file-other _ c.if-file-gt-FILE_LIMIT.false (sym (c.kind_at.ensures.rule)) c.in-Unsigned.is) (lit< tt) in
    record { answer = r.0; places = r.1 }

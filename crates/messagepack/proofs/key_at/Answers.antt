-- A short string is the key; else each kind is a case of the definition.
use Rattle.std.proofs.Common.{sym, ◌∙◌}
use Rattle.messagepack.proofs.Laws.Walk.{key-by, key-other}
use Rattle.messagepack.proofs.Laws.Quick.{short-key}
use Rattle.messagepack.proofs.key_at.Goals as goal

pub returns-in-Some : goal.returns-in-Some
returns-in-Some c = short-key c.short_at.ensures c.in-Some.is

pub returns-in-Missing : goal.returns-in-Missing
returns-in-Missing c = sym (key-by _ _ (sym (c.kind_at.ensures.rule) ∙ c.in-Missing.is))

pub returns-in-Outside : goal.returns-in-Outside
returns-in-Outside c = sym (key-by _ _ (sym (c.kind_at.ensures.rule) ∙ c.in-Outside.is))

pub returns-in-Str : goal.returns-in-Str
returns-in-Str c = c.text_at.ensures ∙ sym (key-by _ _ (sym (c.kind_at.ensures.rule) ∙ c.in-Str.is))

pub returns-in-Unsigned : goal.returns-in-Unsigned
returns-in-Unsigned c = sym (key-other _ _ (sym (c.kind_at.ensures.rule)) c.in-Unsigned.is)

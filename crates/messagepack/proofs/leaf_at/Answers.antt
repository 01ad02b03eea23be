-- Each kind is a case of the definition.
use Rattle.std.proofs.Common.{sym, ap, ◌∙◌}
use Rattle.messagepack.specs.Quick.{leaf_of}
use Rattle.messagepack.proofs.Laws.Quick.{leaf-by, leaf-plain}
use Rattle.messagepack.proofs.leaf_at.Goals as goal

pub returns-in-Missing : goal.returns-in-Missing
returns-in-Missing c = sym (leaf-by _ _ (sym (c.kind_at.ensures.rule) ∙ c.in-Missing.is))

pub returns-in-Outside : goal.returns-in-Outside
returns-in-Outside c = sym (leaf-by _ _ (sym (c.kind_at.ensures.rule) ∙ c.in-Outside.is))

pub returns-in-Unsigned : goal.returns-in-Unsigned
returns-in-Unsigned c = c.as_leaf.ensures ∙ ap leaf_of c.integer_at.ensures ∙ sym (leaf-by _ _ (sym (c.kind_at.ensures.rule) ∙ c.in-Unsigned.is))

pub returns-in-Signed : goal.returns-in-Signed
returns-in-Signed c = c.as_leaf-in-Signed.ensures ∙ ap leaf_of c.plain_at.ensures ∙ sym (leaf-plain _ _ (sym (c.kind_at.ensures.rule)) c.in-Signed.is)

pub returns-in-Bin : goal.returns-in-Bin
returns-in-Bin c = c.as_leaf-in-Bin.ensures ∙ ap leaf_of c.binary_at.ensures ∙ sym (leaf-by _ _ (sym (c.kind_at.ensures.rule) ∙ c.in-Bin.is))

pub returns-in-Str : goal.returns-in-Str
returns-in-Str c = c.as_leaf-in-Str.ensures ∙ ap leaf_of c.string_at.ensures ∙ sym (leaf-by _ _ (sym (c.kind_at.ensures.rule) ∙ c.in-Str.is))

pub returns-in-Array : goal.returns-in-Array
returns-in-Array c = sym (leaf-by _ _ (sym (c.kind_at.ensures.rule) ∙ c.in-Array.is))

pub returns-in-Map : goal.returns-in-Map
returns-in-Map c = sym (leaf-by _ _ (sym (c.kind_at.ensures.rule) ∙ c.in-Map.is))

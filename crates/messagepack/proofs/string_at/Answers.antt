-- Each case of the string is a case of the definition; a string ends inside the file.
use Rattle.std.proofs.Common.{sym, arith}
use Rattle.messagepack.proofs.Laws.Walk.{text-is}
use Rattle.messagepack.proofs.string_at.Goals as goal

pub overflow_add-result : goal.overflow_add-result
overflow_add-result c = omega (arith, (text-is _ _ (sym c.in_ok-text.ensures)).inside)

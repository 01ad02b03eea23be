-- The bytes of the form that are passed are put, each mark replaced. Assumes nothing.
use lib.ListN.{take}
use Rattle.text.specs.Put.{Put}
use Rattle.sentences.specs.Shown.{replaced}
use Rattle.sentences.specs.Sentences.{mark_of}
use Rattle.sentences.proofs.put_replaced.Given as goal

abbrev pub invariant-loop-mark : goal.invariant-loop-mark
invariant-loop-mark l = Put l.initial.buffer 0 (replaced (mark_of l.subject l.name l.sentence) (take l.mark-index l.form)) l.buffer l.next

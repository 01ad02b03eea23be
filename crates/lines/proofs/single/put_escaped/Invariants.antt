-- The bytes passed are put, each as it is shown.
use lib.ListN.{take}
use Rattle.text.specs.Put.{Put}
use Rattle.lines.specs.Single.{escaped}
use Rattle.lines.proofs.single.put_escaped.Given as goal

abbrev pub invariant-loop-byte : goal.invariant-loop-byte
invariant-loop-byte l = Put l.initial.buffer l.at (escaped l.mark (take l.byte-index l.bytes)) l.buffer l.next

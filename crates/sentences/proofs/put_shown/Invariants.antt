-- The bytes that are passed are put, each as it is shown. Assumes nothing.
use lib.ListN.{take}
use Rattle.text.specs.Put.{Put}
use Rattle.sentences.specs.Shown.{shown}
use Rattle.sentences.proofs.put_shown.Given as goal

abbrev pub invariant-loop-byte : goal.invariant-loop-byte
invariant-loop-byte l = Put l.initial.buffer l.at (shown (take l.byte-index l.word)) l.buffer l.next

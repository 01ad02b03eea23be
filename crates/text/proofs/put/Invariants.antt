-- The bytes passed are put, each after those before it.
use lib.ListN.{take}
use Rattle.text.specs.Put.{Put}
use Rattle.text.proofs.put.Given as goal

abbrev pub invariant-loop-byte : goal.invariant-loop-byte
invariant-loop-byte l = Put l.initial.buffer l.at (take l.byte-index l.bytes) l.buffer l.next

-- What is held lies within the buffer.
use Rattle.std.proofs.Common.{◌≡◌, ◌≤◌, length}
use Rattle.station.proofs.bills.read_files.Given as goal

abbrev pub invariant-loop-file : goal.invariant-loop-file
invariant-loop-file l = (l.run.held ≤ length l.buffer) × (length l.buffer ≡ length l.initial.buffer)

-- What is held lies within the buffer, and each piece leaves fewer bytes to read.
use Rattle.std.proofs.Common.{◌≡◌, ◌≤◌, length}
use Rattle.station.proofs.bills.read_pieces.Given as goal

abbrev pub invariant-loop-run : goal.invariant-loop-run
invariant-loop-run l = (l.run.held ≤ length l.buffer) × (length l.buffer ≡ length l.initial.buffer)

abbrev pub decreases-loop-run : goal.decreases-loop-run
decreases-loop-run l = l.run.left

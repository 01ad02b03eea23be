-- What is found from the row here on is what is found from the start: the entry of this row is shown, or the search goes on with the next.
use Rattle.views.specs.Laws.Search.{Looking}
use Rattle.views.proofs.entry.Given as goal

abbrev pub invariant-loop-place : goal.invariant-loop-place
invariant-loop-place l = Looking l.file l.name l.places l.place-index

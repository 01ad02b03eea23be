-- The bytes before the first 0, and the line feed after them.
use mathlib.Core.Path.{sym, ap}
use mathlib.Core.List.{List, [], ◌∷◌, ◌++◌}
use Prim.Native.Nat.{ℕ}
use Rattle.text.specs.Laws.Put.{put-more, put_as}
use Rattle.lines.proofs.put_name.Goals as goal

pub returns : goal.returns
returns c = put_as (put-more c.put-end.ensures c.put_byte.ensures) (ap (λ (l : List ℕ). l ++ (10 ∷ [])) (sym c.text_length-n.ensures.text))

-- The first i elements of each buffer are those of the first i fields, and from i on nothing has changed.
use mathlib.Core.Path.{◌≡◌}
use mathlib.Core.List.{◌++◌}
use Prim.Native.Nat.{◌≤◌}
use lib.ListN.{length, take, drop}
use Rattle.fields.specs.Table.{field_count}
use Rattle.opening.specs.Opening.{starts_of, lengths_of}
use Rattle.opening.proofs.put_parts.Given as goal

abbrev pub invariant-loop-i : goal.invariant-loop-i
invariant-loop-i l =
    (l.i ≤ field_count)
    × (length l.starts ≡ length l.initial.starts)
    × (length l.lengths ≡ length l.initial.lengths)
    × (l.starts ≡ take l.i (starts_of l.file) ++ drop l.i l.initial.starts)
    × (l.lengths ≡ take l.i (lengths_of l.file) ++ drop l.i l.initial.lengths)

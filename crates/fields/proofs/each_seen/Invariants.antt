-- The required rows before i are in the set, so what is left from i on decides.
use mathlib.Core.Path.{◌≡◌}
use Prim.Native.Nat.{ℕ, ◌≤◌}
use Rattle.fields.specs.Types.{FieldType}
use Rattle.fields.specs.Numbers.{rows_from, covered}
use Rattle.fields.specs.Laws.Numbers.{rows_left}
use Rattle.fields.proofs.each_seen.Given as goal

abbrev pub invariant-loop-i : goal.invariant-loop-i
invariant-loop-i l = (l.i ≤ l.n) × ((f : ℕ → FieldType) → covered (rows_from f l.n l.first) l.seen ≡ covered (rows_left f l.n l.first l.i) l.rest)

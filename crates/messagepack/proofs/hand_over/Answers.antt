-- The rows that are copied stand before what is left of the buffer.
use Rattle.std.proofs.Common.{◌≡◌, ◌++◌, ◌-◌, ℕ, ◌+◌, ◌*◌, ◌≤◌, List, length, drop, ap, ◌∙◌, arith, length-drop}
use Rattle.messagepack.specs.Limits.{entry_limit}
use Rattle.messagepack.specs.Outer.{outer_levels}
use Rattle.messagepack.specs.Keys.{table_length}
use Rattle.messagepack.proofs.Laws.Tables.{rows-refused, rows-copied}
use Rattle.messagepack.proofs.hand_over.Goals as goal

-- the outer map has as many rows as a map has entries at most
rows_long : (starts : List ℕ) {n : ℕ} → length starts ≡ table_length → n ≤ entry_limit → n ≤ length (drop (outer_levels * entry_limit) starts)
rows_long starts l h = simp length-drop (omega arith)

pub returns-then-places-n : goal.returns-then-places-n
returns-then-places-n c =
    let a = c.args in
    let r = rows-refused (drop (outer_levels * entry_limit) a.starts.now) a.places.now a.n (rows_long a.starts.now c.requires.0 c.requires.1) c.if-places-n.true in
    record { answer = r.0; places = r.1 }

pub returns : goal.returns
returns c =
    let a = c.args in
    let start = outer_levels * entry_limit in
    let size : start + a.n - start ≡ a.n = omega arith in
    let r = rows-copied (drop start a.starts.now) a.places.now a.n (rows_long a.starts.now c.requires.0 c.requires.1) c.if-places-n.false in
    record { answer = r.0; places = ap (λ (rows : List ℕ). rows ++ drop a.n a.places.now) (rw size at c.copy_from_slice.ensures.after) ∙ r.1 }

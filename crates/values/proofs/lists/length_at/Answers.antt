-- The array at a place has as many values as its head says.
use mathlib.Core.Path.{◌≡◌, sym, ap, ◌∙◌}
use Prim.Native.Nat.{ℕ}
use Rattle.std.specs.Prelude.{Some}
use Rattle.messagepack.specs.Document.{count}
use Rattle.values.specs.Parts.{items_of}
use Rattle.values.specs.Integers.{array_length}
use Rattle.values.specs.Laws.Places.{place-some}
use Rattle.values.proofs.lists.length_at.Goals as goal

pub returns-clause-few : goal.returns-clause-few
returns-clause-few c = c.items_at.ensures.inside

pub returns-clause-is : goal.returns-clause-is
returns-clause-is c =
    λ o q.
    let d = place-some q c.if-at-eq0.false in
    let n : Some (count (items_of d.x)) ≡ Some c.items_at.result.count = ap (λ (n : ℕ). Some n) (c.items_at.ensures.says d.x d.end d.at).counts in
    sym n ∙ sym (ap array_length d.is)

-- An integer in its lead byte ends after it, and one of two bytes after those; another value is read and passed over.
use mathlib.Core.Path.{◌∙◌}
use native.Mathlib.Omega.{arith}
use mir.Syntax.{w32}
use mir.Facts.{to_z-of_z}
use Rattle.values.specs.Laws.Places.{read_low, read-two, at-standing}
use Rattle.values.proofs.lists.next_integer.Goals as goal

pub returns-then-b-lt128 : goal.returns-then-b-lt128
returns-then-b-lt128 c =
    λ x e a.
    let l = read_low x a c.if-at-file.true c.if-b-lt128.true in
    (to_z-of_z {w = w32} (record { sfits = c.from.type_inv }) ∙ c.from.ensures ∙ l.0, l.1)

pub returns-then-file-at-ge3 : goal.returns-then-file-at-ge3
returns-then-file-at-ge3 c =
    λ x e a.
    let l = read-two x a (omega (arith, c.if-file-at-ge3.true)) c.if-b.true (c.from-n.ensures ∙ c.read_u16.ensures) in
    (to_z-of_z {w = w32} (record { sfits = c.unsigned.type_inv }) ∙ c.unsigned.ensures ∙ l.0, l.1)

pub returns : goal.returns
returns c =
    λ x e a.
    (to_z-of_z {w = w32} (record { sfits = c.integer_at.type_inv }) ∙ c.integer_at.ensures.says x e a, c.skip.ensures e (at-standing a))

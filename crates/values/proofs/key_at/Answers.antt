-- A short string has its bytes behind its lead byte; any other value is `text_at`'s.
use Rattle.heads.specs.Table.{lead_table}
use mathlib.Core.Path.{refl}
use Prim.Native.Nat.{◌+◌, ◌≤◌}
use native.Mathlib.Omega.{arith}
use lib.ListN.{length}
use borrow.Author.Tests.{le-leb}
use Rattle.values.specs.Laws.Heads.{text-short}
use Rattle.values.specs.Laws.Places.{read_short}
use Rattle.values.proofs.key_at.Goals as goal

pub returns-then-n-file : goal.returns-then-n-file
returns-then-n-file c =
    let a = c.args in
    let l = c.if-at-file.true in
    let low = c.if-b-ge160.true in
    let high = c.if-b-lt192.true in
    let n = c.from-n.ensures in
    let h : a.at + 1 + c.from-n.result ≤ length a.file.now = omega (arith, c.if-n-file.true) in
    record { inside = h; table = text-short lead_table a.file.now a.at l low high n (rw (le-leb _ _ h)); says = λ x e d. read_short x d l low high n _ (λ i. (refl, refl)) }

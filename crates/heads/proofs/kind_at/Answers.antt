-- The test is that there is a byte; its row of the table of kinds is read, which is that of the table of lead bytes.
use mathlib.Core.Path.{◌≡◌, refl}
use native.Mathlib.Omega.{arith}
use borrow.Author.Tests.{lt-ltb, le-ltb}
use lib.ListN.{get_or}
use Rattle.numbers.specs.Laws.BigEndian.{bytes-of, byte_at}
use Rattle.heads.specs.Table.{lead_table, kind_by}
use Rattle.heads.proofs.Laws.Table.{kinds-leads, kind-rule}
use Rattle.heads.specs.declared.Kind.{Kind}
use Rattle.heads.proofs.kind_at.Goals as goal

pub returns-then-at-file : goal.returns-then-at-file
unfolding kind_by
returns-then-at-file c =
    let a = c.args in
    let bytes = bytes-of a.file.now (λ i. omega (arith, c.shared_slice_known-1.given i)) in
    let row = kinds-leads (get_or a.file.now a.at 0) (byte_at a.file.now bytes a.at c.if-at-file.true) in
    let e : c.kind_of.result ≡ kind_by lead_table a.file.now a.at = rw (lt-ltb _ _ c.if-at-file.true, row, ← c.kinds.ensures, ← c.from.ensures) c.kind_of.ensures in
    record { table = e; rule = kind-rule a.file.now bytes a.at e refl }

pub returns-else-at-file : goal.returns-else-at-file
unfolding kind_by
returns-else-at-file c =
    let a = c.args in
    let e : Kind.Missing ≡ kind_by lead_table a.file.now a.at = rw (le-ltb _ _ c.if-at-file.false) in
    record { table = e; rule = kind-rule a.file.now (bytes-of _ (λ i. omega (arith, c.shared_slice_known-1.given i))) a.at e refl }

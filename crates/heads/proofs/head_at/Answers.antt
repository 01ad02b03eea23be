-- The tests are those of the definition, with the size in the row of the table of head sizes, which is that of the table of lead bytes.
use mathlib.Core.Path.{◌≡◌, refl, sym, ap}
use native.Mathlib.Omega.{arith}
use borrow.Author.Tests.{lt-ltb, le-ltb}
use Prim.Native.Nat.{ℕ, ◌+◌, ◌%◌}
use lib.ListN.{get_or}
use Rattle.std.specs.Prelude.{None}
use Rattle.numbers.specs.Laws.BigEndian.{bytes-of, byte_at}
use Rattle.heads.specs.Head.{some_head}
use Rattle.heads.specs.Table.{lead_table, head_by}
use Rattle.heads.proofs.Laws.Table.{sizes-leads, head-rule}
use Rattle.heads.proofs.head_at.Goals as goal

pub returns-then-file-at : goal.returns-then-file-at
unfolding head_by
returns-then-file-at c =
    let a = c.args in
    let e : None ≡ head_by lead_table a.file.now a.at = rw (le-ltb _ _ c.if-file-at.true) in
    record { table = e; rule = head-rule a.file.now (bytes-of _ (λ i. omega (arith, c.shared_slice_known-1.given i))) a.at e refl }

pub returns-then-file-at-2 : goal.returns-then-file-at-2
unfolding head_by
returns-then-file-at-2 c =
    let a = c.args in
    let s = a.file.now in
    let bytes = bytes-of s (λ i. omega (arith, c.shared_slice_known-1.given i)) in
    let row = sizes-leads (get_or s a.at 0) (byte_at s bytes a.at c.if-file-at.false) in
    let size : get_or lead_table (get_or s a.at 0) 0 % 8 ≡ c.size_of-size.result = rw (row, ← c.head_sizes.ensures, ← c.from.ensures) (sym c.size_of-size.ensures) in
    let e : None ≡ head_by lead_table s a.at = rw (lt-ltb _ _ c.if-file-at.false, size, lt-ltb _ _ c.if-file-at-2.true) in
    record { table = e; rule = head-rule s bytes a.at e refl }

pub returns : goal.returns
unfolding head_by
returns c =
    let a = c.args in
    let s = a.file.now in
    let bytes = bytes-of s (λ i. omega (arith, c.shared_slice_known-1.given i)) in
    let row = sizes-leads (get_or s a.at 0) (byte_at s bytes a.at c.if-file-at.false) in
    let size : get_or lead_table (get_or s a.at 0) 0 % 8 ≡ c.size_of-size.result = rw (row, ← c.head_sizes.ensures, ← c.from.ensures) (sym c.size_of-size.ensures) in
    let e : some_head c.number.result (a.at + c.size_of-size.result) ≡ head_by lead_table s a.at =
    rw (lt-ltb _ _ c.if-file-at.false, size, le-ltb _ _ c.if-file-at-2.false) (ap (λ (n : ℕ). some_head n (a.at + c.size_of-size.result)) c.number.ensures) in
    record { table = e; rule = head-rule s bytes a.at e refl }

-- Each size is a case of the definition; one byte is a number of one byte.
use mathlib.Core.Path.{◌≡◌}
use Prim.Native.Nat.{◌+◌, ◌≤◌}
use native.Mathlib.Nat.{add-zero}
use native.Mathlib.Omega.{arith}
use lib.ListN.{length}
use Rattle.numbers.specs.BigEndian.{unsigned_at}
use Rattle.numbers.specs.Laws.BigEndian.{unsigned_at-loads}
use Rattle.heads.proofs.number.Goals as goal

pub returns-in-2 : goal.returns-in-2
returns-in-2 c =
    let a = c.args in
    let inside : a.at + 1 + 1 ≤ length a.file.now = omega (arith, c.requires) in
    let n : c.from.result ≡ unsigned_at 1 a.file.now (a.at + 1) = omega (arith, c.from.ensures, rw add-zero at (unsigned_at-loads 1 a.file.now (a.at + 1) inside)) in
    let two : a.size ≡ 2 = omega arith in
    rw two n

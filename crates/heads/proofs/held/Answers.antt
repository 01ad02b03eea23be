-- The ranges of the arms are those of `held-ranges`.
use native.Mathlib.Omega.{arith}
use borrow.Author.Tests.{lt-ltb, le-ltb}
use Rattle.heads.proofs.Laws.Table.{held-ranges}
use Rattle.heads.proofs.held.Goals as goal
use Rattle.heads.proofs.held.Goals.{then-b-lt192, else-b-lt192+else-b-lt224}

pub returns-in-0-to-127 : goal.returns-in-0-to-127
returns-in-0-to-127 c = let b = c.args.b in rw (held-ranges b (omega arith), lt-ltb b 0x80 (omega arith)) c.from.ensures

pub returns-in-128-to-159 : goal.returns-in-128-to-159
returns-in-128-to-159 c =
    let b = c.args.b in
    rw (held-ranges b (omega arith), le-ltb b 0x80 (omega arith), lt-ltb b 0xa0 (omega arith)) c.from-in-128-to-159.ensures

pub returns-in-160-to-191 : goal.returns-in-160-to-191
returns-in-160-to-191 c =
    let b = c.args.b in
    elim c.in-160-to-191-1.branch [
      | then-b-lt192 w ↦
          rw (held-ranges b (omega arith), le-ltb b 0x80 (omega arith), le-ltb b 0xa0 (omega arith), lt-ltb b 0xc0 (omega arith)) c.from-in-160-to-191.ensures
      | else-b-lt192+else-b-lt224 w ↦
          rw (held-ranges b (omega arith), le-ltb b 0x80 (omega arith), le-ltb b 0xa0 (omega arith), le-ltb b 0xc0 (omega arith), le-ltb b 0xe0 (omega arith)) c.from-in-160-to-191.ensures
    ]

pub returns-in-192-to-223 : goal.returns-in-192-to-223
returns-in-192-to-223 c =
    let b = c.args.b in
    rw (held-ranges b (omega arith), le-ltb b 0x80 (omega arith), le-ltb b 0xa0 (omega arith), le-ltb b 0xc0 (omega arith), lt-ltb b 0xe0 (omega arith))

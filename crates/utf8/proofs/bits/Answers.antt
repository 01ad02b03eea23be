-- `utf8::bits` meets its contract: a number is at most its bitwise or with another, so no byte passed exceeds `all`. Assumes nothing.
use Prim.Native.Nat.{ℕ, ◌+◌, ◌≤◌}
use mathlib.Core.Path.{◌≡◌}
use native.Mathlib.Omega.{arith}
use borrow.Author.Count.{below_more}
use lib.ListN.{get_or}
use lib.Bits.{bit_or, or_add_and, and_le_l, and_le_r}
use Rattle.std.specs.List.{between}
use Rattle.std.proofs.lemmas.List.Edits.{length-between, get_or-between}
use Rattle.utf8.proofs.bits.Goals as goal

pub loop-byte-preserved : goal.loop-byte-preserved
loop-byte-preserved c =
    let s = c.args.bytes.now in
    let at = c.args.at in
    let e = at + c.args.width in
    let i = c.loop-byte.byte-index in
    let all = c.loop-byte.all in
    let n = length-between s at e c.requires in
    let b = get_or (between at e s) i 0 in
    let same : b ≡ get_or s (at + i) 0 = get_or-between s at e i 0 (omega arith) in
    let l : all ≤ bit_or all b = omega (arith, or_add_and all b, and_le_r all b) in
    let r : b ≤ bit_or all b = omega (arith, or_add_and all b, and_le_l all b) in
    below_more (λ (j : ℕ). get_or s (at + j) 0 ≤ bit_or all b) i (λ j h. omega (arith, c.loop-byte.invariant j h)) (omega (arith, same, r))

pub returns : goal.returns
returns c = λ h j k.
    let n = length-between c.args.bytes.now c.args.at (c.args.at + c.args.width) c.requires in
    omega (arith, c.loop-byte.invariant j (omega arith))

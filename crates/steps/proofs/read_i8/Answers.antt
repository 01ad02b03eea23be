-- A byte inside is the number of one byte; outside the number is 0.
use Rattle.std.proofs.Common.{◌≡◌, ◌+◌, ◌<◌, ◌≤◌, length, get_or, sym, ap, ◌∙◌, add-zero, arith, to_z-of_z, w8, to_z}
use Rattle.numbers.specs.BigEndian.{unsigned_at, signed_at}
use Rattle.numbers.specs.Laws.BigEndian.{unsigned_at-loads, unsigned_at-out}
use Rattle.steps.proofs.read_i8.Goals as goal

pub returns-then-at-payload : goal.returns-then-at-payload
unfolding signed_at
returns-then-at-payload c =
    let a = c.args in
    let inside : a.at + 1 ≤ length a.payload.now = omega arith in
    let e : get_or a.payload.now a.at 0 ≡ unsigned_at 1 a.payload.now a.at = let f = rw add-zero at (unsigned_at-loads 1 a.payload.now a.at inside) in omega arith in
    to_z-of_z {w = w8} (record { sfits = c.cast_signed.type_inv }) ∙ c.cast_signed.ensures
    ∙ ap (to_z w8) e

pub returns-else-at-payload : goal.returns-else-at-payload
unfolding signed_at
returns-else-at-payload c =
    let a = c.args in
    let outside : length a.payload.now < a.at + 1 = omega arith in
    ap (to_z w8) (sym (unsigned_at-out 1 a.payload.now a.at outside))

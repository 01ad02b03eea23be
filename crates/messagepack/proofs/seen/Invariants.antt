-- Where no row has the print, the key is in none. Else the keys in the rows below decide: a row with another print holds another key, and one
-- with this print is compared.
use Rattle.std.proofs.Common.{◌≡◌, ◌≤◌}
use Rattle.messagepack.specs.Walk.{among}
use Rattle.messagepack.specs.Keys.{key_here, keys_in}
use Rattle.messagepack.proofs.seen.Given as goal

abbrev pub invariant-loop-i : goal.invariant-loop-i
invariant-loop-i l =
    (l.base ≤ l.i) × (l.i ≤ l.end) × (among (key_here l.file l.at) (keys_in l.file l.starts l.base l.end) ≡ among (key_here l.file l.at) (keys_in l.file l.starts l.base l.i))

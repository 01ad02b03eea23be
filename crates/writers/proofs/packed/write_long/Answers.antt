-- The parts of the value by its bits, for either sign.
use Rattle.std.proofs.Common.{◌≡◌, ℕ, ◌-◌, ◌/◌, ◌%◌, [], ◌∷◌, ◌++◌, replicate, sym, ap, ◌∙◌, ap₂, to_z-of_z, w32, of_z}
use Rattle.steps.specs.Width.{upper, lower}
use Rattle.steps.specs.Numbers.{bytes_for}
use Rattle.steps.specs.Packing.{pack_one}
use Rattle.writers.specs.Bits.{bits_for}
use Rattle.writers.specs.Laws.Packed.{bytes-pack_one-up, bytes-pack_one-down}
use Rattle.writers.proofs.packed.write_long.Lts as lts
use Rattle.writers.proofs.packed.write_long.Reads as reads
use Rattle.writers.proofs.packed.write_long.Tie as tie
use Rattle.writers.proofs.packed.write_long.Goals as goal

up : (c : lts.After-upper tie.the-claims reads.Pre reads.Post tie.handed_clauses)
    → bytes_for c.args.size (pack_one (upper c.args.size) (lower c.args.size) c.args.x)
    ≡ bits_for c.args.size (replicate (c.cast_unsigned-bits.result / c.upper-p.result) c.upper-p.result ++ (c.cast_unsigned-bits.result % c.upper-p.result ∷ []))
up c =
    let a = c in
    let u = c.cast_unsigned-bits.result in
    bytes-pack_one-up a.args.size u a.args.x a.ranges.x (c.cast_unsigned-bits.ensures ∙ ap (of_z w32) (to_z-of_z {w = w32} a.ranges.x)) c.if-bits-lt2147483648.true
    ∙ ap (λ (p : ℕ). bits_for a.args.size (replicate (u / p) p ++ (u % p ∷ []))) (sym c.upper-p.ensures)

down : (c : lts.After-negated3 tie.the-claims reads.Pre reads.Post tie.handed_clauses)
    → bytes_for c.args.size (pack_one (upper c.args.size) (lower c.args.size) c.args.x)
    ≡ bits_for c.args.size (replicate (c.negated-n.result / c.lower-q.result) c.negated.result ++ (c.negated-2.result ∷ []))
down c =
    let a = c in
    let z = a.args.size in
    let m = c.negated-n.result in
    let q = sym c.lower-q.ensures in
    bytes-pack_one-down z c.cast_unsigned-bits.result a.args.x m a.ranges.x (c.cast_unsigned-bits.ensures ∙ ap (of_z w32) (to_z-of_z {w = w32} a.ranges.x)) c.if-bits-lt2147483648.false c.negated-n.ensures
    ∙ ap (λ (n : ℕ). bits_for z (replicate (m / n) ((4294967296 - n) % 4294967296) ++ ((4294967296 - m % n) % 4294967296 ∷ []))) q
    ∙ ap₂ (λ (l r : ℕ). bits_for z (replicate (m / c.lower-q.result) l ++ (r ∷ []))) (sym c.negated.ensures) (sym c.negated-2.ensures)

pub write_parts-requires : goal.write_parts-requires
write_parts-requires c = rw (up c.before) at c.requires

pub returns-then-bits-lt2147483648 : goal.returns-then-bits-lt2147483648
returns-then-bits-lt2147483648 c =
    let e = up c.before.before.before.before.before in
    record { place = rw e c.write_parts.ensures.place; buffer = rw e c.write_parts.ensures.buffer }

pub write_parts-requires-2 : goal.write_parts-requires-2
write_parts-requires-2 c = rw (down c.before) at c.requires

pub returns : goal.returns
returns c =
    let e = down c.before.before.before.before.before in
    record { place = rw e c.write_parts-2.ensures.place; buffer = rw e c.write_parts-2.ensures.buffer }

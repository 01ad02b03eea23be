-- In 64 bits the product and the sum do not wrap, and the count may be taken modulo 2 ^ 32 (`times_mod`).
use Rattle.std.proofs.Common.{◌≡◌, ◌+◌, ◌*◌, ◌%◌, ◌^◌, ap, ◌∙◌, to_z-of_z, w32, to_z, of_z}
use Rattle.steps.proofs.Laws.Delta.{times_mod}
use Rattle.payloads.proofs.add_times.Goals as goal

pub returns : goal.returns
returns c =
    let k = c in
    let a : c.from-a.result ≡ of_z w32 k.args.sum = c.from-a.ensures ∙ c.cast_unsigned.ensures ∙ ap (of_z w32) (to_z-of_z {w = w32} k.ranges.sum) in
    let d : c.from-d.result ≡ of_z w32 k.args.value = c.from-d.ensures ∙ c.cast_unsigned-2.ensures ∙ ap (of_z w32) (to_z-of_z {w = w32} k.ranges.value) in
    let e : (c.from-a.result + k.args.count % 4294967296 * c.from-d.result) % 4294967296 ≡ (of_z w32 k.args.sum + k.args.count * of_z w32 k.args.value) % 2 ^ 32 =
    rw (a, d) (times_mod (of_z w32 k.args.sum) (of_z w32 k.args.value) k.args.count) in
    to_z-of_z {w = w32} (record { sfits = c.cast_signed.type_inv }) ∙ c.cast_signed.ensures ∙ ap (to_z w32) e

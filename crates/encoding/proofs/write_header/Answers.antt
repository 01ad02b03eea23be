-- Three numbers of 32 bits, one after the other.
use mathlib.Core.Path.{ap, ◌∙◌}
use mathlib.Core.List.{List}
use Prim.Native.Nat.{ℕ}
use Rattle.numbers.specs.BigEndian.{written_at}
use Rattle.encoding.specs.Laws.Calls.{header-written}
use Rattle.encoding.proofs.write_header.Goals as goal

pub returns : goal.returns
returns c =
    let a = c.args in
    c.write_u32-3.ensures ∙ ap (λ (t : List ℕ). written_at 4 t 8 a.parameter) (c.write_u32-2.ensures ∙ ap (λ (t : List ℕ). written_at 4 t 4 a.count) c.write_u32.ensures)
    ∙ header-written a.buffer.now a.codec a.count a.parameter c.requires

-- The bits of the next cell (`next-cell`).
use Rattle.std.proofs.Common.{◌+◌, get_or, pos, arith, w32, to_z, of_z}
use Rattle.writers.specs.Laws.Runs.{next-cell}
use Rattle.writers.proofs.runs.cell_after.Goals as goal

pub returns : goal.returns
returns c =
    let a = c in
    record {
      cell = next-cell a.args.delta (to_z w32 (of_z w32 (get_or a.args.values.now a.args.i (pos 0)))) a.args.values.now (a.args.i + 1) a.requires (record { sfits = c.delta_if-arg-2-1.given }) (record { sfits = c.delta_if.type_inv }) c.delta_if.ensures c.cast_unsigned.ensures;
      fits = omega (arith, c.cast_unsigned.type_inv);
    }

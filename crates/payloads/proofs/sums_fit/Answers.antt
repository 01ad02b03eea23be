-- Few limits are in short rows (`rows_few`); else the blocks tell.
use Rattle.std.proofs.Common.{arith}
use Rattle.payloads.specs.Laws.Limits.{rows_few}
use Rattle.payloads.proofs.sums_fit.Goals as goal

pub returns-then-limits-most_limits : goal.returns-then-limits-most_limits
returns-then-limits-most_limits c e = let a = c in let l = a.requires.1 in let m = c.most_limits.ensures in rows_few _ a.args.two a.args.payload.now a.args.count (omega (arith, c.if-limits-most_limits.true))

-- The lines of the values before i stand in the buffer.
use mathlib.Core.Path.{◌≡◌}
use native.Mathlib.Omega.{arith}
use lib.ListN.{length}
use Rattle.text.specs.Laws.Put.{put-length}
use Rattle.lines.specs.Decimals.{float_in}
use Rattle.lines.specs.Laws.Decimals.{notation-few}
use Rattle.lines.specs.Laws.Lines.{at-start, at_more, at-full, at_done}
use Rattle.lines.proofs.float_lines.Goals as goal

pub loop-i-init : goal.loop-i-init
loop-i-init c = at-start (float_in _) 192 _ _

pub returns-then-buffer-at-lt-FLOAT_ROOM : goal.returns-then-buffer-at-lt-FLOAT_ROOM
returns-then-buffer-at-lt-FLOAT_ROOM c = let g = c.loop-i.invariant in let l = put-length g.going.put in at-full (float_in _) 192 _ g (omega arith)

pub loop-i-preserved : goal.loop-i-preserved
loop-i-preserved c =
    let p = c.loop-i in
    let l = put-length p.invariant.going.put in
    at_more (float_in _) 192 _ p.invariant 0 (omega arith) (omega arith) (notation-few _) c.put_in-at.ensures

pub returns : goal.returns
returns c = let e : length c.args.values.now ≡ c.loop-i.i = omega arith in rw e (at_done (float_in _) 192 _ c.loop-i.invariant (omega arith))

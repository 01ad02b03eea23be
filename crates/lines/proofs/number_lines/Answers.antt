-- The lines of the values before i stand in the buffer.
use mathlib.Core.Path.{◌≡◌, sym, ap}
use native.Mathlib.Omega.{arith}
use lib.IntN.{pos}
use lib.ListN.{length, get_or}
use mir.Syntax.{w32}
use mir.Facts.{to_z-of_z}
use Rattle.text.specs.Laws.Put.{put-length, put_as}
use Rattle.lines.specs.Texts.{number_text}
use Rattle.lines.specs.Lines.{line}
use Rattle.lines.specs.Laws.Texts.{number-few}
use Rattle.lines.specs.Laws.Lines.{at-start, at_more, at-full, at_done}
use Rattle.lines.proofs.number_lines.Goals as goal

pub loop-i-init : goal.loop-i-init
loop-i-init c = at-start (number_text _) 32 _ _

pub returns-then-buffer-at-lt-ROOM : goal.returns-then-buffer-at-lt-ROOM
returns-then-buffer-at-lt-ROOM c = let g = c.loop-i.invariant in let l = put-length g.going.put in at-full (number_text _) 32 _ g (omega arith)

pub loop-i-preserved : goal.loop-i-preserved
loop-i-preserved c =
    let d = c.args.divisor in
    let values = c.args.values.now in
    let p = c.loop-i in
    let l = put-length p.invariant.going.put in
    at_more (number_text d) 32 _ p.invariant (pos 0) (omega arith) (omega arith) (number-few d)
    (put_as c.put_number-at.ensures (ap (line (number_text d)) (sym (to_z-of_z {w = w32} {z = get_or values p.i (pos 0)} (record { sfits = c.put_number-arg-in-loop-i-1.given })))))

pub returns : goal.returns
returns c = let e : length c.args.values.now ≡ c.loop-i.i = omega arith in rw e (at_done (number_text _) 32 _ c.loop-i.invariant (omega arith))

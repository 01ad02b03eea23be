-- The digits from i on are put, each after those above it.
use mathlib.Core.Path.{ap, ◌∙◌}
use lib.Seq.{drop-length}
use Rattle.text.specs.Laws.Put.{put-none, put-more, put_as}
use Rattle.lines.specs.Figures.{glyphs}
use Rattle.lines.specs.Laws.Figures.{glyphs-none, glyphs-more}
use Rattle.lines.proofs.exact.put_row.Goals as goal

pub loop-i-init : goal.loop-i-init
loop-i-init c = put_as (put-none _ _) (ap glyphs (drop-length c.args.row.now) ∙ glyphs-none)

pub loop-i-preserved : goal.loop-i-preserved
loop-i-preserved c =
    put_as (put-more c.loop-i.invariant c.put_byte-next.ensures) (glyphs-more c.args.row.now c.loop-i.i c.loop-i-test.true c.loop-i.auto.i ∙ rw (c.digit.ensures, c.from.ensures))

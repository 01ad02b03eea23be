-- The lines of the names before `from` stand in the buffer; a size of 0 gives no name.
use mathlib.Core.Path.{◌≡◌, ap, subst}
use Prim.Native.Nat.{ℕ, ◌+◌, ◌-◌, ◌<◌}
use native.Mathlib.Omega.{arith}
use lib.ListN.{take, drop}
use Rattle.text.specs.Laws.Put.{put-length, put_as}
use Rattle.lines.specs.Texts.{name_text}
use Rattle.lines.specs.Lines.{line}
use Rattle.lines.specs.Laws.Texts.{name-line-few}
use Rattle.lines.specs.Laws.Lines.{from_start, from-none, from_more, from-full, from-done}
use Rattle.lines.proofs.name_lines.Goals as goal

pub returns-then-size-eq0 : goal.returns-then-size-eq0
returns-then-size-eq0 c = from-none name_text _ _ _ c.if-size-eq0.true

pub loop-from-init : goal.loop-from-init
loop-from-init c = from_start name_text _ _ _

pub returns-then-buffer-at : goal.returns-then-buffer-at
returns-then-buffer-at c = let g = c.loop-from.invariant in let l = put-length g.going.put in from-full name_text _ _ g (omega arith)

pub loop-from-preserved : goal.loop-from-preserved
loop-from-preserved c =
    let size = c.args.size in
    let names = c.args.names.now in
    let p = c.loop-from in
    let e : size ≡ (p.from + size) - p.from = omega arith in
    let l = put-length p.invariant.going.put in
    from_more name_text _ _ p.invariant c.if-size-eq0.false c.loop-from-test.true (subst (λ (n : ℕ). size < n - p.at) l c.if-buffer-at.false) (name-line-few _)
    (put_as c.put_name-at.ensures (ap (λ (n : ℕ). line name_text (take n (drop p.from names))) e))

pub returns : goal.returns
returns c = from-done name_text _ _ c.loop-from.invariant c.loop-from-test.false

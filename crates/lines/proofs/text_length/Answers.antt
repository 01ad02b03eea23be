-- The bytes before i are none of them 0, so that the text begins with them.
use mathlib.Core.Path.{◌≡◌, sym, ap, ◌∙◌}
use mathlib.Core.List.{[], append_assoc, append-nil}
use Prim.Native.Nat.{◌<◌}
use native.Mathlib.Omega.{arith}
use native.Mathlib.Numerals.{add-one}
use lib.ListN.{length, take, drop, drop_of_length-le}
use lib.Seq.{take-suc, drop-cons}
use Rattle.lines.specs.Texts.{name_text}
use Rattle.lines.specs.Laws.Texts.{name-end, name-byte, name-none}
use Rattle.lines.proofs.text_length.Goals as goal

pub returns-then-byte-eq0 : goal.returns-then-byte-eq0
returns-then-byte-eq0 c =
    let name = c.args.name.now in
    let p = c.loop-i in
    let e : name_text (drop p.i name) ≡ [] = ap name_text (drop-cons name p.i 0 (omega arith)) ∙ name-end _ _ c.if-byte-eq0.true in
    record { within = omega arith; text = sym (p.invariant ∙ rw e (append-nil (take p.i name))) }

pub loop-i-preserved : goal.loop-i-preserved
loop-i-preserved c =
    let name = c.args.name.now in
    let p = c.loop-i in
    let h : p.i < length name = omega arith in
    let e = ap name_text (drop-cons name p.i 0 h) ∙ name-byte _ _ c.if-byte-eq0.false in
    p.invariant ∙ rw (e, add-one p.i, take-suc name p.i 0) (sym (append_assoc (take p.i name) _ _))

pub returns : goal.returns
returns c =
    let name = c.args.name.now in
    let p = c.loop-i in
    let e : name_text (drop p.i name) ≡ [] = ap name_text (drop_of_length-le name {i = p.i} (omega arith)) ∙ name-none in
    let l : length name ≡ p.i = omega arith in
    record { within = omega arith; text = rw l (sym (p.invariant ∙ rw e (append-nil (take p.i name)))) }

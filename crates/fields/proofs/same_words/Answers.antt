-- The bytes before i are the same; a word that differs decides, and at the end the last word.
use mathlib.Core.Path.{sym, ◌∙◌}
use Prim.Native.Nat.{◌-◌}
use native.Mathlib.Omega.{arith}
use lib.ListN.{length}
use Rattle.numbers.specs.Laws.BigEndian.{bytes-of}
use Rattle.fields.specs.Laws.Words.{words-next, words-last, words-not}
use Rattle.fields.proofs.same_words.Goals as goal

pub returns-then-word : goal.returns-then-word
returns-then-word c =
    let a = c.args in
    sym (words-not a.x.now a.y.now c.loop-i.i (λ e. c.if-word.true (c.word.ensures ∙ e ∙ sym c.word-in-loop-i.ensures)))

pub loop-i-preserved : goal.loop-i-preserved
loop-i-preserved c =
    let a = c.args in
    words-next a.x.now a.y.now (bytes-of a.x.now (λ j. omega (arith, c.shared_slice_known-1.given j))) (bytes-of a.y.now (λ j. omega (arith, c.shared_slice_known-2-1.given j))) c.requires.0 c.loop-i.i (omega arith) c.loop-i.invariant (sym c.word.ensures ∙ c.if-word.false ∙ c.word-in-loop-i.ensures)

pub returns : goal.returns
returns c =
    let a = c.args in
    rw (c.word-2.ensures, c.word-3.ensures) (words-last a.x.now a.y.now (bytes-of a.x.now (λ j. omega (arith, c.shared_slice_known-1.given j))) (bytes-of a.y.now (λ j. omega (arith, c.shared_slice_known-2-1.given j))) c.requires.0 c.loop-i.i (length a.x.now - 4) (omega (arith, c.requires.1)) c.loop-i-test.false c.loop-i.invariant)

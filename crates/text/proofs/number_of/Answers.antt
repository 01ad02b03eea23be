-- What the digits passed say, with what is left, gives the number; the word is read when nothing is left.
use mathlib.Core.Path.{sym, ap, ◌∙◌}
use Prim.Native.Nat.{◌<◌}
use native.Mathlib.Omega.{arith}
use native.Mathlib.Numerals.{add-one}
use borrow.Author.Tests.{eqb-true, eqb-false}
use lib.ListN.{length, drop_of_length-le}
use lib.Seq.{drop-cons}
use Rattle.text.specs.Laws.Decimal.{finished, finished-start, none_said, finished-other, finished-more, finished-end}
use Rattle.text.proofs.number_of.Goals as goal

pub returns-then-is_empty : goal.returns-then-is_empty
returns-then-is_empty c = sym (none_said _ (eqb-true _ _ (sym c.is_empty.ensures ∙ c.if-is_empty.true)))

pub loop-byte-init : goal.loop-byte-init
loop-byte-init c = (omega arith, finished-start _ (eqb-false _ _ (sym c.is_empty.ensures ∙ c.if-is_empty.false)))

pub returns-then-not-is_ascii_digit : goal.returns-then-not-is_ascii_digit
returns-then-not-is_ascii_digit c =
    let word = c.args.word.now in
    let p = c.loop-byte in
    sym (p.invariant.1 ∙ ap (finished p.number) (drop-cons word p.byte-index 0 (omega arith)) ∙ finished-other p.number _ _ (sym c.is_ascii_digit.ensures.value ∙ c.if-not-is_ascii_digit.true))

pub loop-byte-preserved : goal.loop-byte-preserved
loop-byte-preserved c =
    let word = c.args.word.now in
    let p = c.loop-byte in
    let h : p.byte-index < length word = omega arith in
    let e = c.with_digit-number.ensures in (
      omega arith,
      p.invariant.1
          ∙ ap (finished p.number) (drop-cons word p.byte-index 0 h)
          ∙ finished-more p.number _ _ (sym c.is_ascii_digit.ensures.value ∙ c.if-not-is_ascii_digit.false)
          ∙ rw (add-one p.byte-index, e),
    )

pub returns : goal.returns
returns c =
    let word = c.args.word.now in
    let p = c.loop-byte in
    sym (p.invariant.1 ∙ ap (finished p.number) (drop_of_length-le word {i = p.byte-index} (omega arith)) ∙ finished-end p.number p.invariant.0)

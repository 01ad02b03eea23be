-- The tests are those of a string whose length is in its lead byte and whose bytes are below 80.
use Rattle.std.specs.Prelude.{take, drop, true}
use Rattle.std.proofs.Common.{◌≡◌, ◌+◌, ◌-◌, sym, ◌∙◌, arith}
use Rattle.utf8.specs.Check.{is_ascii}
use Rattle.messagepack.specs.Quick.{another}
use Rattle.messagepack.proofs.Laws.Quick.{short-found, empty-found}
use Rattle.messagepack.proofs.short_at.Goals as goal
use Rattle.messagepack.proofs.short_at.Goals.{then-this-ne0-2, else-this-ne0-2}

pub returns-then-file-at : goal.returns-then-file-at
returns-then-file-at k c = another

pub returns-then-b-lt160 : goal.returns-then-b-lt160
returns-then-b-lt160 k c = another

pub returns-then-b : goal.returns-then-b
returns-then-b k c = let a = c.args in empty-found a.file.now a.at (omega arith) c.if-b.true

pub returns-then-file-p : goal.returns-then-file-p
returns-then-file-p k c = another

pub returns-then-low : goal.returns-then-low
returns-then-low k c =
    let a = c.args in
    let n = c.from-n.result in
    let i : a.at + 1 + n - (a.at + 1) ≡ n = omega arith in
    let low : is_ascii (take n (drop (a.at + 1) a.file.now)) ≡ true =
    elim c.if-this-ne0-2.branch [
      | then-this-ne0-2 w ↦ rw i at (w.all_low-low.ensures (sym w.low-is ∙ c.if-low.true))
      | else-this-ne0-2 w ↦ rw i at (sym w.is_ascii-low.ensures ∙ sym w.low-is ∙ c.if-low.true)
    ] in
    short-found a.file.now a.at (omega arith) n c.if-b-lt160.false c.if-b-ge192.false (omega (arith, c.from-n.ensures)) (omega arith) low

pub returns : goal.returns
returns k c = another

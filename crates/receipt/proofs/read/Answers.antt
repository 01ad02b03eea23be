-- What is found at the start is the receipt if it ends where the bytes end. Assumes nothing.
use Rattle.std.proofs.Common.{◌≡◌, Option, ℕ, List, sym, refl, ap, ◌∙◌}
use Rattle.receipt.specs.declared.Found.{Found}
use Rattle.receipt.specs.Reading.{found_at}
use Rattle.receipt.specs.Laws.Found.{reading-none, reading-all, reading-more}
use Rattle.receipt.proofs.read.Goals as goal

-- what is found at a place that is the start
at_start : (s : List ℕ) (at : ℕ) {found : Option Found} → found ≡ found_at s at → at ≡ 0 → found_at s 0 ≡ found
at_start s at e z = sym (e ∙ ap (found_at s) z)

pub returns-in-Some : goal.returns-in-Some
returns-in-Some c =
    reading-all c.args.bytes.now c.in-Some.found.receipt c.in-Some.found.end (at_start c.args.bytes.now _ c.find.ensures refl ∙ c.in-Some.is) c.if-found-bytes.true

pub returns-in_default : goal.returns-in_default
returns-in_default c =
    reading-more c.args.bytes.now c.in-Some.found.receipt c.in-Some.found.end (at_start c.args.bytes.now _ c.find.ensures refl ∙ c.in-Some.is) c.if-found-bytes.false

pub returns-in_default-2 : goal.returns-in_default-2
returns-in_default-2 c = reading-none c.args.bytes.now (at_start c.args.bytes.now _ c.find.ensures refl ∙ c.in_default.is)

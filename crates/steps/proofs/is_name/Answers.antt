-- Four bytes are tested by their word, and other names byte by byte.
use Rattle.std.proofs.Common.{◌≡◌, ℕ, ◌+◌, ◌<◌, get_or, take, drop, sym, ap, ◌∙◌, arith}
use Rattle.steps.specs.Steps.{one_name, zeros_last}
use Rattle.steps.proofs.Laws.Padding.{four-at, ascii-at, four-name}
use Rattle.steps.proofs.is_name.Goals as goal

pub returns-in-4 : goal.returns-in-4
returns-in-4 c =
    let b = c in
    let s = b.args.names.now in
    let at = b.args.at in
    let byte : (i : ℕ) → get_or s i 0 < 128 = λ i. ascii-at s i b.requires.1 in
    let four : b.args.size ≡ 4 = c.in-4.is in
    c.zeros_last.ensures ∙ ap zeros_last c.word_of.ensures
    ∙ four-name (get_or s at 0) (get_or s (at + 1) 0) (get_or s (at + 2) 0) (get_or s (at + 3) 0) (byte at) (byte (at + 1)) (byte (at + 2)) (byte (at + 3))
    ∙ ap one_name (sym (ap (λ (n : ℕ). take n (drop at s)) four ∙ four-at s at (omega arith)))

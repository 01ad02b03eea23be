-- A print is the size with the first and the last bytes added, modulo 2^32.
use Rattle.std.proofs.Common.{ℕ, ◌+◌, ◌*◌, ◌%◌, sym, ap, ◌∙◌, ap₂}
use Rattle.messagepack.proofs.Laws.Tables.{print-four, print-two, print-short}
use Rattle.messagepack.proofs.print_of.Goals as goal

pub returns-then-m-lt2 : goal.returns-then-m-lt2
returns-then-m-lt2 c = sym (print-short _ _ _ c.requires c.if-m-lt2.true)

pub returns-then-m-lt4 : goal.returns-then-m-lt4
returns-then-m-lt4 c =
    let m = c.args.m in
    ap (λ (n : ℕ). (m % 65536 * 65536 + n) % 4294967296) (c.from-last.ensures ∙ c.half_word.ensures) ∙ sym (print-two _ _ _ c.requires c.if-m-lt4.true c.if-m-lt2.false)

pub returns : goal.returns
returns c =
    let m = c.args.m in
    ap (λ (n : ℕ). (m % 65536 * 65536 + n) % 4294967296) (ap₂ (λ (x y : ℕ). (x + y) % 4294967296) c.word-first.ensures c.word-last.ensures)
    ∙ sym (print-four _ _ _ c.requires c.if-m-lt4.false)

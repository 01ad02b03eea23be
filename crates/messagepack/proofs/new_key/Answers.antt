-- Each case of the key is a case of `Noted`; a key's place fits the table, since it ends inside the file.
use Rattle.std.proofs.Common.{sym, ◌∙◌, arith}
use Rattle.std.proofs.lemmas.Result.{err_from_is_err_and}
use Rattle.messagepack.specs.Keys.{refused, repeated, noted}
use Rattle.heads.proofs.Laws.Head.{head-inside}
use Rattle.messagepack.proofs.Laws.Walk.{text-is, key-is}
use Rattle.messagepack.proofs.Laws.Tables.{sought}
use Rattle.messagepack.proofs.new_key.Goals as goal

pub print_of-print-requires : goal.print_of-print-requires
print_of-print-requires c = (text-is _ _ (key-is _ _ (sym c.in_ok-key.ensures)).1).inside

pub seen-requires : goal.seen-requires
seen-requires c = sought c.requires (sym c.in_ok-key.ensures) c.print_of-print.ensures

pub returns-in_err-key : goal.returns-in_err-key
returns-in_err-key c =
    let p = err_from_is_err_and c.from_residual.result c.from_residual.ensures.1 in
    rw (p.1, p.2) (refused (sym c.in_err-key.ensures))

pub returns-then-seen : goal.returns-then-seen
returns-then-seen c = repeated (sym c.in_ok-key.ensures) (sym c.seen.ensures ∙ c.if-seen.true)

pub overflow_cast-starts : goal.overflow_cast-starts
overflow_cast-starts c =
    let i = text-is _ _ (key-is _ _ (sym c.in_ok-key.ensures)).1 in
    omega (arith, c.requires.small, i.inside, head-inside _ _ i.head)

pub overflow_add-result : goal.overflow_add-result
overflow_add-result c = omega (arith, c.requires.small, (text-is _ _ (key-is _ _ (sym c.in_ok-key.ensures)).1).inside)

pub returns : goal.returns
returns c = noted (sym c.in_ok-key.ensures) (sought c.requires (sym c.in_ok-key.ensures) c.print_of-print.ensures) (sym c.seen.ensures ∙ c.if-seen.false)

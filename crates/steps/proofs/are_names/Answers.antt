-- Bytes that are not ASCII are not allowed; those that are, are allowed where the names of that size are padded.
use Rattle.std.proofs.Common.{◌≡◌, true, map, pos, sym, ◌∙◌}
use Rattle.steps.specs.declared.Range.TheVariants.{Ascii}
use Rattle.steps.specs.Payload.{all_in}
use Rattle.steps.proofs.Laws.Padding.{allowed-padded, padded-one}
use Rattle.steps.proofs.are_names.Lts as lts
use Rattle.steps.proofs.are_names.Reads as reads
use Rattle.steps.proofs.are_names.Tie as tie
use Rattle.steps.proofs.are_names.Goals as goal

-- past the first test the bytes are ASCII
passed : (c : lts.Else1 tie.the-claims reads.Pre reads.Post) → all_in Ascii (map pos c.args.names.now) ≡ true
passed c = sym c.are_ascii.ensures ∙ c.if-not-are_ascii.false

pub returns-in-1 : goal.returns-in-1
returns-in-1 c =
    let a = c.args in
    allowed-padded a.size 1 _ true (passed c.before.before) c.in-1.is (sym (padded-one 0 (pos 0) (map pos a.names.now)))

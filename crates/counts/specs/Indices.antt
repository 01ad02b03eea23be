-- Rule 11 of paper 01, "Counts that must agree": the chains that an entity or a transform lists, as tests on documents. No reader, no place and
-- no lemma stands here. Assumes nothing.
use Rattle.std.specs.Prelude.{Bool, ℕ}
use Rattle.numbers.specs.Ranges.{all_below}
use Rattle.messagepack.specs.Document.{Document}
use Rattle.values.specs.Parts.{under, items_in}
use Rattle.fields.specs.Tests.{all}
use Rattle.values.specs.Integers.{integers_in, list_in}

-- the chains that a map lists are inside n chains: an entity, or a transform
abbrev pub chains_inside : ℕ → Document → Bool
chains_inside n x = all_below n (list_in (integers_in (under "chainIndexList" x)))

-- the chains that the transforms of an assembly list are inside n chains
abbrev pub transforms_inside : ℕ → Document → Bool
transforms_inside n x = all (chains_inside n) (items_in (under "transformList" x))

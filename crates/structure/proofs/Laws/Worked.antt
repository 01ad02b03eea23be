-- The worked lines of paper 01 that are marked P, shown by one claim.
-- Assumes nothing.
use Rattle.std.specs.Prelude.{refl}
use Rattle.numbers.specs.BigEndian.{number_of, bytes_of, unsigned_at}
use Rattle.heads.specs.Lead.{kind_of, more_of, held_by}
use Rattle.heads.specs.Head.{kind_at, head_at}
use Rattle.messagepack.specs.Walk.{entries_from, entries_at, value_at, container_number}
use Rattle.messagepack.specs.Read.{document_of, read_value, read_entries}
use Rattle.values.specs.Parts.{look}
use Rattle.fields.specs.Tests.{have}
use Rattle.fields.specs.Table.{named}
use Rattle.fields.specs.Fields.{fields_number}
use Rattle.steps.specs.Numbers.{first_numbers, numbers_in, bytes_for}
use Rattle.steps.specs.RunLength.{expand}
use Rattle.steps.specs.Delta.{results_from}
use Rattle.steps.specs.Packing.{unpack_from, pack_one, pack_all}
use Rattle.steps.specs.Payload.{all_in, read_in, held_in}
use Rattle.columns.specs.Table.{codec_of}
use Rattle.columns.specs.Header.{header_of}
use Rattle.columns.specs.Decode.{decode}
use Rattle.structure.specs.Accepted.{verdict_of}
use Rattle.structure.specs.Worked.{lines, SayAll}

-- every line holds
pub worked : SayAll lines
unfolding decode header_of codec_of unsigned_at number_of bytes_of numbers_in first_numbers held_in read_in expand results_from unpack_from all_in bytes_for pack_all pack_one verdict_of container_number value_at entries_at entries_from kind_at head_at kind_of more_of held_by document_of read_value read_entries fields_number have look named
worked = (refl, (refl, (refl, (refl, (refl, (refl, (refl, (refl, (refl, (refl, (refl, (refl, tt))))))))))))

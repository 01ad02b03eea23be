-- The library's bytes of a number are those of the definition.
use Rattle.std.proofs.Common.{◌∙◌, div-one}
use Rattle.numbers.specs.BigEndian.{written_at, bytes_of}
use Rattle.numbers.proofs.write_u16.Goals as goal

pub returns : goal.returns
unfolding written_at bytes_of
returns c = c.write.ensures ∙ rw (c.to_be_bytes-half.ensures, div-one)

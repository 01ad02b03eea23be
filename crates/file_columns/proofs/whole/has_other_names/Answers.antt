-- A column that is too short has no names; else the codec and the parameter are read.
use Rattle.std.proofs.Common.{le-leb}
use Rattle.columns.specs.Header.{header_size}
use borrow.Author.Tests.{lt-leb}
use Rattle.file_columns.specs.Field.{other_names}
use Rattle.file_columns.proofs.whole.has_other_names.Goals as goal

pub returns-then-column-lt-HEADER_SIZE : goal.returns-then-column-lt-HEADER_SIZE
unfolding other_names
returns-then-column-lt-HEADER_SIZE c = rw (lt-leb header_size _ c.if-column-lt-HEADER_SIZE.true)

pub returns : goal.returns
unfolding other_names
returns c =
    let a = c.args in
    rw (le-leb header_size _ c.if-column-lt-HEADER_SIZE.false, ← c.read_u32.ensures, ← c.read_u32-2.ensures, ← c.codec_of-codec.ensures) c.is_other_size.ensures

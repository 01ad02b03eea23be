-- The three fields, then the header's rules.
use mathlib.Core.Path.{◌∙◌}
use lib.ListN.{length}
use borrow.Author.Tests.{lt-ltb, le-ltb}
use Rattle.columns.specs.Header.{header_of}
use Rattle.columns.proofs.read_header.Goals as goal

pub returns-then-column-lt-HEADER_SIZE : goal.returns-then-column-lt-HEADER_SIZE
unfolding header_of
returns-then-column-lt-HEADER_SIZE c = rw (lt-ltb _ _ c.if-column-lt-HEADER_SIZE.true)

pub returns : goal.returns
unfolding header_of
returns c =
    let a = c.args in
    c.judge.ensures
    ∙ rw (le-ltb (length a.column.now) 12 c.if-column-lt-HEADER_SIZE.false, c.codec_of.ensures, c.read_u32-codec.ensures, c.read_u32-length.ensures, c.read_u32-parameter.ensures)

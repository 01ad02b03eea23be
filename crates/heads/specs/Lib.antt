-- Lead bytes and heads: `Lead` is the list of paper 01, then `Head`, and `Table` with its tables of 256 rows. `Span` is for the laws.
pub mod Lead
pub mod Head
pub mod Table
pub mod Span

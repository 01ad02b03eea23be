-- What is proved of the definitions of `payloads`.
pub mod Exact
pub mod Items
pub mod Scan
pub mod Plain
pub mod Writing
pub mod Judged
pub mod Packed
pub mod Totals
pub mod Runs
pub mod Refusal
pub mod Limits
pub mod Blocks
pub mod Small

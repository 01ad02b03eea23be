-- A payload read in one pass: `Exact` and `Scan`. `Items`, `Limits`, `Results` and `Blocks` are for the code inside.
pub mod Exact
pub mod Scan
pub mod Items
pub mod Limits
pub mod Results
pub mod Blocks
pub mod Laws

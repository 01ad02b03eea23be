-- What is proved of the definitions of `bill`.
pub mod Run
pub mod Sums
pub mod Units
pub mod Longest
pub mod Worked
pub mod Ledger
pub mod Pieces
pub mod Rising
pub mod Columns
pub mod Entries
pub mod Answer
pub mod Statement

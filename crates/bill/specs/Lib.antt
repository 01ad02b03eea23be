-- The month's bill. To read: `Run`, `Bill`, `Answer`, `Statement`. `Ledger` and `Steps` are for the code, which enters receipts one after another.
pub mod Run
pub mod Bill
pub mod Answer
pub mod Sums
pub mod Statement
pub mod Ledger
pub mod Steps
pub mod Laws

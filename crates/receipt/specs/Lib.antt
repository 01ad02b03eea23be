-- Receipts. To read: `Receipt`, `Reading`, `File`, `Demand`. `Steps` is for the code inside.
pub mod Receipt
pub mod Reading
pub mod File
pub mod Demand
pub mod Steps
pub mod Laws

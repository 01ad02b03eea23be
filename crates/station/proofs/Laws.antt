-- What is proved of the definitions of `station`.
pub mod Bills
pub mod Output
pub mod Reading
pub mod Receipts

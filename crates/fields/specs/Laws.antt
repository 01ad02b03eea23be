-- What is proved of the definitions of `fields`.
pub mod Types
pub mod Fields
pub mod Sets
pub mod Rows
pub mod Numbers
pub mod Words
pub mod Steps
pub mod Notes

-- What is proved of the definitions of `receipt`.
pub mod Rules
pub mod Numbers
pub mod Lines
pub mod Reading
pub mod Found
pub mod File
pub mod Demand

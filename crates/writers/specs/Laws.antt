-- What is proved of the definitions of `writers`.
pub mod Placed
pub mod Numbers
pub mod Plain
pub mod Packed
pub mod Runs

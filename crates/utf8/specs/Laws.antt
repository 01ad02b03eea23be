-- What is proved of the definitions of `utf8`.
pub mod Utf8
pub mod Check
pub mod Step

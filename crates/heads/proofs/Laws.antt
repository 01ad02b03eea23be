-- What is proved of the definitions of `heads`.
pub mod Span
pub mod Table
pub mod Head

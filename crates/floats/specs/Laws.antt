-- What is proved of the definitions of `floats`.
pub mod Table
pub mod Quotient
pub mod Calls
pub mod Filled

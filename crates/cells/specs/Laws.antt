-- What is proved of the definitions of `cells`.
pub mod Table
pub mod Calls
pub mod Found

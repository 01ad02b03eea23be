-- What is proved of the definitions of `structure`.
pub mod Accepted
pub mod Summary
pub mod Worked

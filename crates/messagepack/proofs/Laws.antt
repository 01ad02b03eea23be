-- What is proved of the definitions of `messagepack`.
pub mod Walk
pub mod Outer
pub mod Keys
pub mod Sound
pub mod Complete
pub mod Unique
pub mod Refused
pub mod Container
pub mod Tables
pub mod Quick

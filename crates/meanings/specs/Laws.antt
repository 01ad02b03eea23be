-- What is proved of the definitions of `meanings`.
pub mod Meanings
pub mod Steps

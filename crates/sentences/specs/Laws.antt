-- What is proved of the definitions of `sentences`.
pub mod Shown
pub mod Steps

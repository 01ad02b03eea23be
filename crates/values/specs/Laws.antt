-- What is proved of the definitions of `values`.
pub mod Standing
pub mod Places
pub mod Heads
pub mod Parts
pub mod Seeking
pub mod Integers

-- Parts of a document. `Places`, `Heads`, `Standing` and `Walked`, values at places of a file, are for the code inside.
pub mod Parts
pub mod Places
pub mod Heads
pub mod Standing
pub mod Walked
pub mod Seeking
pub mod Integers
pub mod Laws

-- What is proved of the definitions of `transforms`.
pub mod Matrix

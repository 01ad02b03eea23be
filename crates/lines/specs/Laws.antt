-- What is proved of the definitions of `lines`.
pub mod Texts
pub mod Figures
pub mod Decimals
pub mod Lines
pub mod Single

-- What is proved of the definitions of `text`.
pub mod Equal
pub mod Put
pub mod Decimal

-- Bytes as text: `Ascii` is how definitions write it, `Equal` the test of equal bytes, `Put` text put into a buffer, `Decimal` numbers in decimal.
pub mod Ascii
pub mod Equal
pub mod Put
pub mod Decimal
pub mod Laws

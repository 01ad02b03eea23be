-- The values of a column as lines: `Lines`, over `Texts` and, for floats in decimal, `Decimals`. `Single` has the lines of
-- single values, and `Figures` is what inner steps speak of.
pub mod Texts
pub mod Figures
pub mod Decimals
pub mod Lines
pub mod Single
pub mod Laws

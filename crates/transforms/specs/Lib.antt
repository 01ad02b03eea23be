-- A transform's matrix: `Matrix`. `Steps` is for the code inside.
pub mod Matrix
pub mod Steps
pub mod Laws

-- The columns of a file: `Columns`. `Steps` is for the code inside.
pub mod Columns
pub mod Steps
pub mod Cells
pub mod Field
pub mod Passing
pub mod Laws

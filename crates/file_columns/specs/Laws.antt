-- What is proved of the definitions of `file_columns`.
pub mod Columns
pub mod Steps
pub mod Cells
pub mod Field
pub mod Passing
pub mod Around
pub mod Exits

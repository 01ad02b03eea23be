-- A real column as floats: `Calls`. `Steps` is for the code inside.
pub mod Calls
pub mod Steps
pub mod Laws

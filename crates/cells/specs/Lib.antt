-- What is answered for one cell: `Calls`. `Steps` is for the code inside.
pub mod Calls
pub mod Steps
pub mod Laws

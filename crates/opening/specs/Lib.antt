-- A file opened by one call: `Opening`. `Steps` is for the code inside.
pub mod Opening
pub mod Steps
pub mod Laws

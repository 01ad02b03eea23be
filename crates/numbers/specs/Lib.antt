-- Big-endian numbers in bytes, and integers between limits. `Steps` is for the code inside.
pub mod BigEndian
pub mod Ranges
pub mod Steps
pub mod Laws

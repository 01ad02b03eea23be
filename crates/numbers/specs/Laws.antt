-- What is proved of the definitions of `numbers`.
pub mod BigEndian
pub mod Ranges
pub mod Tests

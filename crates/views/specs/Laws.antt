-- What is proved of the definitions of `views`.
pub mod Shown
pub mod Search
pub mod View
pub mod Unique
pub mod Binary
pub mod Shapes

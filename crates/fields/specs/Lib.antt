-- The named fields and their types. To read: `Types`, `Table`, `Tests`, `Fields`. `Noted`, `Numbers` and `Steps` are for the code inside.
pub mod Types
pub mod Table
pub mod Tests
pub mod Fields
pub mod Noted
pub mod Numbers
pub mod Steps
pub mod Laws

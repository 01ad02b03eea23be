-- What is proved of the definitions of `columns`.
pub mod Same
pub mod Table
pub mod Rows
pub mod Header
pub mod Encode
pub mod Decode
pub mod Buffer
pub mod Form
pub mod RoundTrip
pub mod CanHold
pub mod Shortest

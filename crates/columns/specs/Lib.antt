-- The sixteen codecs. To read: `Table`, `Header`, `Decode`, `Buffer`, `Encode`, `CanHold`, `WriterForm`, `Shortest`.
pub mod Table
pub mod Header
pub mod Decode
pub mod Buffer
pub mod Encode
pub mod CanHold
pub mod WriterForm
pub mod Shortest

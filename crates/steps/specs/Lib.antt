-- The steps of the codecs. To read: `Width`, `Numbers`, `RunLength`, `Delta`, `Packing`, `Payload`, `WriterForm`, `Fits`.
-- `Steps` is for the code inside.
pub mod Width
pub mod Numbers
pub mod RunLength
pub mod Delta
pub mod Packing
pub mod Payload
pub mod Steps
pub mod Fits
pub mod WriterForm

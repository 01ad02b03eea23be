-- What the decoders answer and leave: `Calls`. `Steps` is for the code inside.
pub mod Calls
pub mod Steps
pub mod Laws

-- What a writer of a payload says and leaves: `Placed`. `Bits` is for the code inside.
pub mod Placed
pub mod Bits
pub mod Laws

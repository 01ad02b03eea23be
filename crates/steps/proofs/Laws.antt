-- What is proved of the definitions of `steps`.
pub mod Numbers
pub mod Packing
pub mod Payload
pub mod Lists
pub mod Allowed
pub mod Names
pub mod Padding
pub mod Fits
pub mod NumbersBack
pub mod RunLength
pub mod Delta
pub mod PackingBack
pub mod PayloadBack
pub mod Fewest
pub mod PayloadFewest

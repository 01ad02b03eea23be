-- What is proved of the definitions of `opening`.
pub mod Places
pub mod Opening
pub mod Presence

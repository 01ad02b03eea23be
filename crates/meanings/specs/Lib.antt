-- The meaning of each refusal in words.
pub mod Meanings
pub mod Steps
pub mod Laws

-- What the program says: `Shown` is how a word is shown, `Reasons` the system's errors in words, `Sentences` the sentences, `Steps` their table.
pub mod Shown
pub mod Reasons
pub mod Sentences
pub mod Steps
pub mod Laws

-- The verdict on a file: `Accepted`, and `Summary`. The paper's worked lines: `Worked`. `Steps` is for the code inside.
pub mod Accepted
pub mod Summary
pub mod Worked
pub mod Steps

-- What the encoders answer and leave: `Calls`; demand 2 as one statement: `Demand`. `Steps` is for the code inside.
pub mod Calls
pub mod Demand
pub mod Steps
pub mod Laws

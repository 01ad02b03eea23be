-- What is proved of the definitions of `encoding`.
pub mod Plan
pub mod Calls
pub mod Demand

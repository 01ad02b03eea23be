-- The eleven rules of counts: `Counts`, with `Group` for rule 5 and `Indices` for rule 11. `Steps`, `GroupPlaces` and `IndexPlaces` are for the code inside.
pub mod Counts
pub mod Group
pub mod Indices
pub mod GroupPlaces
pub mod IndexPlaces
pub mod Steps

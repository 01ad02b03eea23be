-- The part of a file under an outer key: `View` says what it is, and `Place` gives it. `Plain` has what stands at a place, and `Shapes` the shape
-- of a value. `Shown` is for the code inside.
pub mod View
pub mod Place
pub mod Shown
pub mod Plain
pub mod Shapes
pub mod Laws

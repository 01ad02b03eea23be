-- Documents, their writings, limits and the walk. To read: `Document`, `Limits`, `Rules`, `Walk`, `Read`, `Outer`. `Keys`
-- and `Quick` are for the code inside.
pub mod Limits
pub mod Document
pub mod Rules
pub mod Walk
pub mod Read
pub mod Outer
pub mod Keys
pub mod Quick

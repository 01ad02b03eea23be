-- What the program decides: `Words` which command its words name, `Status` how a run ends, `Listing` the line of a field, `Texts` how a value is
-- shown, `Bills` how far the files of a bill are read.
pub mod Words
pub mod Status
pub mod Listing
pub mod Texts
pub mod Bills

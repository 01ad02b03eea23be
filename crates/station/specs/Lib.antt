-- What the program makes of a file beyond what *commands* decides: `Receipts` the receipt and its verdict, `Reading` what lies in a buffer,
-- `Bills` what is held of receipts in files, `System` the numbers of the system's errors.
pub mod Receipts
pub mod Reading
pub mod Bills
pub mod System

-- UTF-8: `Utf8` is the rule, `Check` the test. `Step` is for the code inside.
pub mod Utf8
pub mod Check
pub mod Step
pub mod Laws

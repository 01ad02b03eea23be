-- The table of refusal numbers, numbers of rules joined in their order, and the answer of a call that fills a buffer.
pub mod Table
pub mod First
pub mod Outcome
pub mod Answer

-- What is proved of the definitions of `refusal`.
pub mod Table
pub mod First

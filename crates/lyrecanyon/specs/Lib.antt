pub mod Answers
pub mod Making

pub mod Halls
pub mod Answers

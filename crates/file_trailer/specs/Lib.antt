pub mod Trailer
pub mod Answers

pub mod Answers
pub mod Picture
pub mod Outcome
pub mod Writing
pub mod Reading
pub mod Asked
pub mod Back

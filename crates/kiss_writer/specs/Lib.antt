pub mod Answers
pub mod Export
pub mod Asked
pub mod Back

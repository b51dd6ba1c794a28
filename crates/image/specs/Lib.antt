pub mod Answers
pub mod Line
pub mod Placing
pub mod Asked
pub mod Back

pub mod Trained
pub mod Example

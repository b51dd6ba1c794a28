pub mod Answers
pub mod Laid
pub mod Read
pub mod Text

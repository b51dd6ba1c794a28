pub mod Answers
pub mod Asked
pub mod Channel
pub mod Lent
pub mod Open
pub mod Promised
pub mod Statements
pub mod Step

pub mod Following
pub mod Sequence
pub mod Statements

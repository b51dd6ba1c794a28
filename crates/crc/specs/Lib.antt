pub mod Check
pub mod Statements

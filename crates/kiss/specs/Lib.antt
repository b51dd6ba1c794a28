pub mod Stream
pub mod Reader
pub mod Statements
